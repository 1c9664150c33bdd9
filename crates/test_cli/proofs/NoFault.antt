-- Words that give an order have no fault of their files.
use Rattle.std.proofs.Common.{◌≡◌, ◌∙◌, ◌+◌, ◌<◌, ◌⊎◌, Bool, cond, true, false, List, Option, Some, is_some, codes, length, sym, ap, subst, inl, inr, arith}
use Rattle.std.specs.Prelude.{IsTrue}
use Rattle.std.specs.Str.{bytes_eq}
use Rattle.clap.specs.Walk.{Row, Text, first_of}
use Rattle.ill_args.specs.CommandLine.{verb_name}
use Rattle.ill_args.specs.Orders.{files_in, list_in, target_name, verb, AreInAndOut, HasOne, HasOutput, HasWords, IsOrderOf, NamesNothing, ReadsInputTwice, ReadsOutput}
use Rattle.ill_args.specs.Refused.{ExceedsTwo, HasAnyFiles, HasFault, HasSameWord, IsFaultOf, LacksTwo}
use Rattle.ill_args.specs.declared.fault.LineFault.{LineFault}
use Rattle.ill_args.specs.declared.orders.FormVerb.{FormVerb}
use Rattle.ill_args.specs.declared.orders.LineResults.{LineResults}
use Rattle.ill_args.specs.declared.orders.Order.{Order}
use Rattle.ill_args.specs.declared.orders.Target.{Target}
use Rattle.ill_args.specs.declared.orders.Verb.{Verb}
use Rattle.ill_args.specs.declared.orders.Work.{Work}
use Rattle.test_cli.specs.Orders.{IsOfFiles}
use Rattle.test_cli.proofs.OneOrder.{one_found, some_is, two_files, verb_is}

-- nothing is wrong with the files of a command
record AreSound (v : Verb) (rows : List Row) : Type 0 where
  differ : HasSameWord v rows → ⊥
  once : HasAnyFiles v rows → ReadsInputTwice rows → ⊥
  not_written : (form : FormVerb) → v ≡ Verb.Write form → ReadsOutput rows → ⊥
  some : HasAnyFiles v rows → NamesNothing rows → ⊥
  not_few : LacksTwo v rows → ⊥
  not_many : ExceedsTwo v rows → ⊥

none : (v : Verb) (rows : List Row) (fault : LineFault) → IsOfFiles fault → AreSound v rows → HasFault v rows fault → ⊥
none v rows LineFault.SameWord of s (inl f) = s.differ f
none v rows LineFault.InputTwice of s (inl f) = s.once f.0 f.1
none v rows LineFault.OutputIsRead of s (inl f) = s.not_written f.0.0 f.0.1 f.1
none v rows (LineFault.Missing error) of s (inl (k, inl f)) = s.some f.0 f.1
none v rows (LineFault.Missing error) of s (inl (k, inr f)) = s.not_few f
none v rows (LineFault.Unexpected error) of s (inl (k, f)) = s.not_many f
none v rows LineFault.SameWord of s (inr (f, g)) = g
none v rows LineFault.InputTwice of s (inr (f, g)) = g
none v rows LineFault.OutputIsRead of s (inr (f, g)) = g
none v rows (LineFault.Missing error) of s (inr (f, g)) = g
none v rows (LineFault.Unexpected error) of s (inr (f, g)) = g
none v rows _ of s f = of

-- a command other than `same`, that writes no normal forms
abbrev IsPlain : Verb → Type 0
IsPlain Verb.Same = ⊥
IsPlain (Verb.Write form) = ⊥
IsPlain _ = Unit {0}

of_plain : (v : Verb) (rows : List Row) → IsPlain v → (ReadsInputTwice rows → ⊥) → (NamesNothing rows → ⊥) → AreSound v rows
of_plain Verb.Same rows p once some = absurd p
of_plain (Verb.Write form) rows p once some = absurd p
of_plain _ rows p once some = record {
  differ = λ f. f;
  once = λ any. once;
  not_written = λ form e f. cc;
  some = λ any. some;
  not_few = λ f. f;
  not_many = λ f. f;
}

-- with `-o` there are no IN and OUT
of_output : (form : FormVerb) (rows : List Row) (output : Target) → HasOutput rows output → (ReadsInputTwice rows → ⊥) → (NamesNothing rows → ⊥) → AreSound (Verb.Write form) rows
of_output form rows output h once some = record {
  differ = λ f. absurd (let g = sym h.word ∙ f.1.2 in cc);
  once = λ any. once;
  not_written = λ form e. h.not_read;
  some = λ any. some;
  not_few = λ f. absurd (let g = sym h.word ∙ f.0 in cc);
  not_many = λ f. absurd (let g = sym h.word ∙ f.0 in cc);
}

of_in_and_out : (form : FormVerb) (rows : List Row) (input : Text) (output : Target) → AreInAndOut rows input output → AreSound (Verb.Write form) rows
of_in_and_out form rows input output h = record {
  differ = λ f. let two = two_files _ input (target_name output) f.0 f.0 h.words.0 f.1.0 in
      h.differ (λ dash. f.2 (sym two.0 ∙ dash)) (two.1 ∙ sym two.0);
  once = λ any. lacks any;
  not_written = λ form e f. absurd (rw h.words.2 at f);
  some = λ any. lacks any;
  not_few = λ f. few f.1;
  not_many = λ f. let count : length (files_in rows) ≡ 2 = ap length h.words.0 in let many = f.1 in absurd (omega arith);
}
  where
    lacks : {P : Type 0} → IsTrue (is_some (first_of (codes "output") rows)) → P
    lacks any = absurd (let g : true ≡ false = sym any ∙ ap is_some h.words.2 in cc)

    few : (length (files_in rows) < 2) ⊎ IsTrue (is_some (list_in rows)) → ⊥
    few (inl f) = let count : length (files_in rows) ≡ 2 = ap length h.words.0 in absurd (omega arith)
    few (inr f) = absurd (let g : true ≡ false = sym f ∙ ap is_some h.words.1 in cc)

-- a single file is no input twice, and not nothing
one_once : (rows : List Row) (file : Text) → HasOne rows file → ReadsInputTwice rows → ⊥
one_once rows file h f = few (bytes_eq file (codes "-")) (rw (h.0, h.1) at f)
  where
    few : (b : Bool) → 1 < (0 + cond b 1 0) + 0 → ⊥
    few true f = absurd (omega arith)
    few false f = absurd (omega arith)

one_some : (rows : List Row) (file : Text) → HasOne rows file → NamesNothing rows → ⊥
one_some rows file h f = absurd (let g = sym h.0 ∙ f.0 in cc)

sound : (rows : List Row) (order : Order) → HasWords rows order → AreSound (verb order) rows
sound rows (Order.Each (Work.Print job json named messages inputs)) h = of_plain _ rows tt h.4.once h.4.some
sound rows (Order.Each (Work.Dump elements named inputs)) h = of_plain _ rows tt h.2.once h.2.some
sound rows (Order.Each (Work.Write job messages input output)) h = of_in_and_out _ rows input.now output h.2
sound rows (Order.Each (Work.Collect job messages inputs output)) h = of_output _ rows output h.3 h.2.once h.2.some
sound rows (Order.Each (Work.Lines profile input (LineResults.Report report))) h = of_plain _ rows tt (one_once rows input.now h.2) (one_some rows input.now h.2)
sound rows (Order.Each (Work.Lines profile input (LineResults.Write output))) h = of_in_and_out _ rows input.now output h.2
sound rows (Order.Each (Work.Lines profile input (LineResults.Collect output))) h = of_output _ rows output h.2.1 (one_once rows input.now h.2.0) (one_some rows input.now h.2.0)
sound rows (Order.Compare reading first second) h = record {
  differ = λ f. h.2 (some_is _ _ (sym h.1.0 ∙ f.0)) (some_is _ _ (sym h.1.1 ∙ f.1));
  once = λ any. absurd any;
  not_written = λ form e f. cc;
  some = λ any. absurd any;
  not_few = λ f. f;
  not_many = λ f. f;
}

found_fault : (found : Option (Text × List Row)) (fault : LineFault) → IsOfFiles fault → IsFaultOf found fault → (v : Verb) × (rows : List Row) × (found ≡ Some (verb_name v, rows)) × HasFault v rows fault
found_fault found (LineFault.Line error) of f = absurd of
found_fault found _ of f = f

pub no_fault_of_files : (found : Option (Text × List Row)) (order : Order) (fault : LineFault) → IsOfFiles fault → IsOrderOf found order → IsFaultOf found fault → ⊥
no_fault_of_files found order fault of h f =
    let has = found_fault found fault of f in
    let one = one_found found (verb_name (verb order)) (verb_name has.0) h.rows has.1 h.command has.2 in
    let v : has.0 ≡ verb order = sym (verb_is _ _ one.0) in
    let rows : has.1 ≡ h.rows = sym one.1 in
    none (verb order) h.rows fault of (sound h.rows order h.words) (subst (λ r. HasFault (verb order) r fault) rows (subst (λ w. HasFault w has.1 fault) v has.3))
