-- The last of the frames, and how many there are.
use Rattle.ill_schema.specs.Profiles.{profile_of}
use Rattle.ill_tables.specs.declared.profile.Profile.{Profile as Named}
use Rattle.std.proofs.Common.{◌≡◌, ℕ, zero, suc, ◌-◌, Bool, true, IsTrue, IfSome, take, List, [], ◌∷◌, ◌++◌, length, length-append, Option, Some, None, is_some, refl, sym, ap, ◌∙◌, arith, slice_get, ◌≤◌, ◌+◌, subst, get_or, set}
use Rattle.ber_leaf.specs.Profile.{profile_two}
use Rattle.ill_grammar.specs.Due.{next_is, shape}
use Rattle.ill_schema.specs.TableFacts.{is_of_two}
use Rattle.ill_schema.proofs.Tags.{at_row}
use Rattle.ill_grammar.specs.Places.{is_two, node_at}
use Rattle.ill_tables.specs.declared.profile.Profile.TheVariants.{Two, Module}
use Rattle.ill_grammar.specs.Two.{are_of, is_found_of, is_place_of, is_two_frame}
use Rattle.ill_grammar.specs.code.Judging.{outermost_end}
use Rattle.ill_grammar.specs.Need.{outermost}
use Rattle.ill_refusals.specs.Place.{Open, next_in, innermost_end, bound}
use Rattle.ill_grammar.specs.Standing.{Level, next_at, AreFrames}
use Rattle.ill_grammar.specs.declared.frame.Frame.{Frame}
use Rattle.std.specs.List.{list_all}
use Rattle.std.proofs.lemmas.Bool.{and_parts}
use Rattle.std.proofs.Math.Bridge.{le_prop}
use Rattle.std.proofs.lemmas.List.{set_at, get_or_at}
use Rattle.ill_grammar.specs.declared.place.Place.{Place}
use Rattle.ill_grammar.specs.declared.place.Found.{Found}

pub next_last : (p : Named) (frames : List Frame) (f : Frame) → slice_get frames (length frames - 1) ≡ Some f → next_at p frames ≡ (shape f.place)
next_last p [] f e = absurd cc
next_last p (g ∷ []) f e = let q : Some g ≡ Some f = e in let r : g ≡ f = cc in ap (λ (x : Frame). shape x.place) r
next_last p (g ∷ h ∷ fs) f e = next_last p (h ∷ fs) f (let n : length (g ∷ h ∷ fs) - 1 ≡ suc (length (h ∷ fs) - 1) = omega arith in sym (ap (slice_get (g ∷ h ∷ fs)) n) ∙ e)

-- the frame after others
pub next_behind : (p : Named) (outer : List Frame) (f : Frame) → next_at p (outer ++ f ∷ []) ≡ (shape f.place)
next_behind p (g ∷ h ∷ fs) f = next_behind p (h ∷ fs) f
next_behind p _ f = refl

pub last_behind : (outer : List Frame) (f : Frame) → slice_get (outer ++ f ∷ []) (length (outer ++ f ∷ []) - 1) ≡ Some f
last_behind [] f = refl
last_behind (g ∷ fs) f =
    let n : length (g ∷ (fs ++ f ∷ [])) - 1 ≡ suc (length (fs ++ f ∷ []) - 1) = omega (arith, length-append fs (f ∷ [])) in
    ap (slice_get (g ∷ (fs ++ f ∷ []))) n ∙ last_behind fs f

-- as many as the open elements
pub frames_open : (p : Named) (place : List Open) (frames : List Frame) (levels : List Level) → AreFrames p place frames levels → length frames ≡ length place
frames_open p [] frames levels h = ap length h.0
frames_open p (o ∷ path) frames levels h =
    let r = frames_open p path h.0 h.2 h.7 in
    omega (arith, ap length h.4, length-append h.0 (h.1 ∷ []), r)

-- the last frame is the innermost open element
pub last_open : (p : Named) (o : Open) (path : List Open) (frames : List Frame) (levels : List Level) (h : AreFrames p (o ∷ path) frames levels) (f : Frame)
    → slice_get frames (length frames - 1) ≡ Some f → h.1 ≡ f
last_open p o path frames levels h f e =
    let q : Some h.1 ≡ Some f = sym (last_behind h.0 h.1) ∙ ap (λ (x : List Frame). slice_get x (length x - 1)) (sym h.4) ∙ e in
    cc

pub no_last : (frames : List Frame) (f : Frame) → frames ≡ [] → slice_get frames (length frames - 1) ≡ Some f → ⊥
no_last frames f h e = let q : None ≡ Some f = ap (λ (x : List Frame). slice_get x (length x - 1)) (sym h) ∙ e in cc

pub bound_last : (p : Named) (place : List Open) (frames : List Frame) (levels : List Level) (f : Frame) → AreFrames p place frames levels
    → slice_get frames (length frames - 1) ≡ Some f → f.bound ≡ bound profile_two place
bound_last p [] frames levels f h e = absurd (no_last frames f h.0 e)
bound_last p (o ∷ path) frames levels f h e = ap (λ (x : Frame). x.bound) (sym (last_open p o path frames levels h f e)) ∙ h.6.bound

-- no frame, no open element
pub none_open : (p : Named) (place : List Open) (frames : List Frame) (levels : List Level) → AreFrames p place frames levels → length frames ≡ 0 → place ≡ []
none_open p [] frames levels h e = refl
none_open p (o ∷ path) frames levels h e = absurd (omega (arith, e, frames_open p (o ∷ path) frames levels h))

-- what may come next
pub next_open : (p : Named) (place : List Open) (frames : List Frame) (levels : List Level) → AreFrames p place frames levels → next_is (next_at p frames) ≡ next_in (profile_of p) place
next_open p [] frames levels h = ap (λ (x : List Frame). next_is (next_at p x)) h.0
next_open p (o ∷ path) frames levels h = ap (λ (x : List Frame). next_is (next_at p x)) h.4 ∙ ap next_is (next_behind p h.0 h.1) ∙ h.6.next

abbrev or_end : Option ℕ → Option ℕ → Option ℕ
or_end x y = elim x as (λ _. Option ℕ) [ Some e ↦ Some e | None ↦ y ]

outermost_behind : (outer : List Frame) (f : Frame) → outermost_end (outer ++ f ∷ []) ≡ or_end (outermost_end outer) f.end
outermost_behind [] f = go f.end
  where
    go : (x : Option ℕ) → (elim x as (λ _. Option ℕ) [ Some e ↦ Some e | None ↦ None ]) ≡ x
    go (Some e) = refl
    go None = refl
outermost_behind (g ∷ fs) f = ap (or_end g.end) (outermost_behind fs f) ∙ go g.end (outermost_end fs)
  where
    go : (x y : Option ℕ) → or_end x (or_end y f.end) ≡ or_end (or_end x y) f.end
    go (Some e) y = refl
    go None y = refl

pub outermost_open : (p : Named) (place : List Open) (frames : List Frame) (levels : List Level) → AreFrames p place frames levels → outermost_end frames ≡ outermost place
outermost_open p [] frames levels h = ap outermost_end h.0
outermost_open p (o ∷ path) frames levels h =
    ap outermost_end h.4 ∙ outermost_behind h.0 h.1 ∙ ap (or_end (outermost_end h.0)) h.6.end ∙ ap (λ x. or_end x o.end) (outermost_open p path h.0 h.2 h.7)

-- an end is found outermost where one is found innermost
pub ends_found : (p : Named) (place : List Open) (frames : List Frame) (levels : List Level) → AreFrames p place frames levels
    → is_some (outermost_end frames) ≡ is_some (innermost_end place)
ends_found p [] frames levels h = ap (λ x. is_some (outermost_end x)) h.0
ends_found p (o ∷ path) frames levels h =
    ap (λ x. is_some (outermost_end x)) h.4 ∙ ap is_some (outermost_behind h.0 h.1 ∙ ap (or_end (outermost_end h.0)) h.6.end)
    ∙ go (outermost_end h.0) (innermost_end path) o.end (ends_found p path h.0 h.2 h.7)
  where
    go : (x y e : Option ℕ) → is_some x ≡ is_some y → is_some (or_end x e) ≡ is_some (or_end e y)
    go (Some a) y (Some e) q = refl
    go (Some a) y None q = q
    go None y (Some e) q = refl
    go None y None q = q

-- the last frame with another next
pub advanced : (outer : List Frame) (f x : Frame) (frames : List Frame) (i : ℕ) (n : Place) (p : x.bound ≤ 1048576) → frames ≡ outer ++ f ∷ [] → i ≡ length frames - 1
    → x ≡ get_or frames i x → set frames i (record x { place = n; within = p }) ≡ outer ++ record f { place = n } ∷ []
advanced outer f x frames i n p e last is =
    let len : length frames ≡ length outer + length (f ∷ []) = ap length e ∙ length-append outer (f ∷ []) in
    let at : length outer ≡ i = omega (arith, len, last) in
    let same : x ≡ f = is ∙ ap (λ fs. get_or fs i x) e ∙ get_or_at outer f [] x i at in
    ap (λ fs. set fs i (record x { place = n; within = p })) e ∙ set_at outer f [] (record x { place = n; within = p }) i at
    ∙ ap (λ g. outer ++ g ∷ []) (alike x same p)
  where
    alike : (y : Frame) → y ≡ f → (q : y.bound ≤ 1048576) → record y { place = n; within = q } ≡ record f { place = n }
    alike y s q =
        let P : Frame → Type 0 = λ z. (r : z.bound ≤ 1048576) → record z { place = n; within = r } ≡ record f { place = n } in
        subst P (sym s) (λ r. ap (λ w. let g : Frame = record f { place = n; within = w } in g) (le_prop r f.within)) q

-- what one more frame, fewer, or one at another place leave of the profile
all_added : (test : Frame → Bool) (xs : List Frame) (x : Frame) → IsTrue (list_all test xs) → IsTrue (list_all test (x ∷ [])) → IsTrue (list_all test (xs ++ x ∷ []))
all_added test [] x h k = k
all_added test (y ∷ xs) x h k = let q = and_parts (test y) (list_all test xs) h in rw q.0 (all_added test xs x q.1 k)

all_taken : (test : Frame → Bool) (n : ℕ) (xs : List Frame) → IsTrue (list_all test xs) → IsTrue (list_all test (take n xs))
all_taken test zero xs h = refl
all_taken test (suc n) [] h = refl
all_taken test (suc n) (y ∷ xs) h = let q = and_parts (test y) (list_all test xs) h in rw q.0 (all_taken test n xs q.1)

all_moved : (xs : List Frame) (n : ℕ) (x : Frame) (place : Place) (within : x.bound ≤ 1048576) → IsTrue (list_all is_two_frame xs) → x ≡ get_or xs n x → IsTrue (is_of_two (node_at place))
    → IsTrue (list_all is_two_frame (set xs n (record x { place = place; within = within })))
all_moved [] n x place within h e two = refl
all_moved (y ∷ xs) zero x place within h e two =
    let q = and_parts (is_two_frame y) (list_all is_two_frame xs) h in
    let found : IsTrue (is_two y.found) = (and_parts (is_of_two (node_at y.place)) _ q.0).1 in
    rw (two, subst (λ (z : Frame). IsTrue (is_two z.found)) (sym e) found) q.1
all_moved (y ∷ xs) (suc n) x place within h e two =
    let q = and_parts (is_two_frame y) (list_all is_two_frame xs) h in
    rw q.0 (all_moved xs n x place within q.1 e two)

pub added_of : (p : Named) (xs : List Frame) (x : Frame) → IsTrue (are_of p xs) → IsTrue (are_of p (x ∷ [])) → IsTrue (are_of p (xs ++ x ∷ []))
added_of Two xs x h k = all_added is_two_frame xs x h k
added_of Module xs x h k = refl

pub taken_of : (p : Named) (n : ℕ) (xs : List Frame) → IsTrue (are_of p xs) → IsTrue (are_of p (take n xs))
taken_of Two n xs h = all_taken is_two_frame n xs h
taken_of Module n xs h = refl

pub moved_of : (p : Named) (xs : List Frame) (n : ℕ) (x : Frame) (place : Place) (within : x.bound ≤ 1048576) → IsTrue (are_of p xs) → x ≡ get_or xs n x → IsTrue (is_place_of p place)
    → IsTrue (are_of p (set xs n (record x { place = place; within = within })))
moved_of Two xs n x place within h e two = all_moved xs n x place within h e two
moved_of Module xs n x place within h e two = refl

-- the last frame, where there is one
pub last_of : (p : Named) (xs : List Frame) (o : Option Frame) → IsTrue (are_of p xs) → o ≡ slice_get xs (length xs - 1) → IfSome o (λ frame. IsTrue (are_of p (frame ∷ [])))
last_of p xs None h e = tt
last_of Two xs (Some f) h e = rw (at_row is_two_frame xs (length xs - 1) f h (sym e)) refl
last_of Module xs (Some f) h e = refl

pub place_of : (p : Named) (f : Frame) → IsTrue (are_of p (f ∷ [])) → IsTrue (is_place_of p f.place)
place_of Two f h = (and_parts (is_of_two (node_at f.place)) _ (and_parts (is_two_frame f) true h).0).0
place_of Module f h = refl

-- what is found at a place of the profile
pub found_of : (p : Named) (at : Place) (f : Found) → IsTrue (is_place_of p at) → (IsTrue (is_of_two (node_at at)) → IsTrue (is_two f)) → IsTrue (is_found_of p f)
found_of Two at f h k = k h
found_of Module at f h k = refl
