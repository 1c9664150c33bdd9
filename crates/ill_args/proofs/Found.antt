-- A command that was found, from its name and its rows.
use Rattle.std.proofs.Common.{◌≡◌, ◌∙◌, Bool, cond, codes, true, false, refl, sym, ap, List, [], ◌∷◌, ℕ, Option, Some, None, option_map, unwrap_or, IfSome, inl, inr}
use Rattle.std.specs.Prelude.{find}
use Rattle.std.specs.List.{list_all, list_any}
use Rattle.std.specs.Option.{option_map_or}
use Rattle.std.specs.Str.{bytes_eq}
use Rattle.std.specs.Str.Parse.{ExplainsUnsignedError, HasUnsignedDigitsIfOk, ParsesBool, ParsesUnsigned}
use Rattle.std.proofs.lemmas.Bool.{and_parts}
use Rattle.std.proofs.lemmas.Slice.Eq.{bytes_eq-Decides}
use Rattle.clap.specs.Words.{ReadsOne}
use Rattle.clap.specs.Walk.{Row, Text}
use Rattle.ill_args.specs.CommandLine.{all_verbs, verb_name}
use Rattle.ill_args.specs.Orders.{IsOptionNumber}
use Rattle.ill_args.specs.Refused.{IsFaultOf}
use Rattle.ill_args.specs.code.Commands.{IsFault}
use Rattle.ill_args.specs.declared.fault.LineFault.{LineFault}
use Rattle.ill_args.specs.declared.orders.FileJob.{FileJob}
use Rattle.ill_args.specs.declared.orders.FormVerb.{FormVerb}
use Rattle.ill_args.specs.declared.orders.Report.{Report}
use Rattle.ill_args.specs.declared.orders.Verb.{Verb}

abbrev pair : {X : Type 0} → (X → Text) → (X → List Row) → X → Text × List Row
pair f g b = (f b, g b)

pub both_parts : {X : Type 0} (f : X → Text) (g : X → List Row) (s : Option X) (name : Text) (rows : List Row)
    → Some name ≡ option_map f s → Some rows ≡ option_map (λ (p : Text × List Row). p.1) (option_map (pair f g) s) → option_map (pair f g) s ≡ Some (name, rows)
both_parts f g None name rows h k = absurd cc
both_parts f g (Some b) name rows h k = let e : f b ≡ name = cc in let r : g b ≡ rows = cc in ap (λ (n : Text). Some (n, g b)) e ∙ ap (λ (l : List Row). Some (name, l)) r

-- what is found passes its test, and the test that all pass
pub find_passes : {X : Type 0} (p q : X → Bool) (xs : List X) → list_all q xs ≡ true → IfSome (find p xs) (λ x. (p x ≡ true) × (q x ≡ true))
find_passes p q [] all = tt
find_passes p q (x ∷ xs) all = go (p x) refl (find_passes p q xs (and_parts (q x) _ all).1)
  where
    go : (b : Bool) → p x ≡ b → IfSome (find p xs) (λ y. (p y ≡ true) × (q y ≡ true)) → IfSome (cond b (Some x) (find p xs)) (λ y. (p y ≡ true) × (q y ≡ true))
    go true e rest = (e, (and_parts (q x) _ all).0)
    go false e rest = rest

is_false : (b : Bool) → (b ≡ true → ⊥) → b ≡ false
is_false true never = absurd (never refl)
is_false false never = refl

-- a flag that clap reads as a `bool`
pub flag_is : (E : Type 0) (found : Option Text) (flag : Option Bool) → (found ≡ None → flag ≡ None) → ((t : Text) → found ≡ Some t → ReadsOne {E = E} ParsesBool t flag)
    → unwrap_or flag false ≡ option_map_or (λ text. bytes_eq text (codes "true")) found false
flag_is E None flag none value = ap (λ o. unwrap_or o false) (none refl)
flag_is E (Some t) (Some true) none value = sym ((bytes_eq-Decides t (codes "true")).1 (value t refl))
flag_is E (Some t) (Some false) none value = ap (λ text. bytes_eq text (codes "true")) (sym (value t refl))
flag_is E (Some t) None none value = sym (is_false _ (λ e. (value t refl).1.0 ((bytes_eq-Decides t (codes "true")).0 e)))

-- a value that clap reads as a `u32`
pub number_is : (found : Option Text) (number : Option ℕ) → (found ≡ None → number ≡ None)
    → ((t : Text) → found ≡ Some t → ReadsOne (λ t r. ParsesUnsigned 32 10 t r × ExplainsUnsignedError 10 t r × HasUnsignedDigitsIfOk t r) t number) → IsOptionNumber found number
number_is None number none value = none refl
number_is (Some t) (Some n) none value = (value t refl).0
number_is (Some t) None none value = (value t refl).1.0

-- a fault of the words of the command that was found
pub found_fault : (found : Option (Text × List Row)) (verb : Verb) (rows : List Row) (fault : LineFault) → found ≡ Some (verb_name verb, rows) → IsFault verb rows fault → IsFaultOf found fault
found_fault found verb rows (LineFault.Line error) is h = tt
found_fault found verb rows _ is (inl memory) = absurd memory
found_fault found verb rows _ is (inr h) = (verb, rows, is, h)

-- each command is in the list of all
pub is_command_name : (verb : Verb) → list_any (λ one. bytes_eq (verb_name one) (verb_name verb)) all_verbs ≡ true
is_command_name (Verb.Print (FileJob.Report Report.Check)) = refl
is_command_name (Verb.Print (FileJob.Report _)) = refl
is_command_name (Verb.Print _) = refl
is_command_name (Verb.Write FormVerb.Build) = refl
is_command_name (Verb.Write _) = refl
is_command_name _ = refl
