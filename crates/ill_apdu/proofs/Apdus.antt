-- Which node an APDU's body has, and when two APDUs are one.
use Rattle.std.proofs.Common.{◌≡◌, ◌≢◌, ℕ, zero, suc, ◌+◌, ◌-◌, ◌<◌, ◌≤◌, Bool, true, false, nat_eq, List, [], ◌∷◌, Some, None, refl, sym, ap, ap₂, subst, ◌∙◌, length, slice_get, arith}
use Rattle.std.specs.Prelude.{if◌then◌else◌}
use Rattle.std.proofs.Math.Dec.{eqb-suc-zero}
use Rattle.ber_leaf.specs.Profile.{profile_two}
use Rattle.ill_tables.specs.declared.{node.NodeId.NodeId, part.Presence.Presence, part.Row.Row}
use Rattle.ill_schema.specs.declared.{unfit.Unfit.Unfit}
use Rattle.ill_tables.specs.declared.node.NodeId.TheVariants.{IllApdu}
use Rattle.ill_schema.specs.declared.unfit.Unfit.TheVariants.{NotCarried, DoesNotFit, TooLong}
use Rattle.ill_schema.specs.Apdu.{Apdu as NumberedBody, normal_form}
use Rattle.ill_schema.specs.Content.{Content}
use Rattle.ill_schema.specs.Fits.{Fits, FitsApdu}
use Rattle.ill_schema.specs.Names.{carried, carried_node, apdu_node_of}
use Rattle.ill_schema.specs.Presence.{IsCarried}
use Rattle.ill_tables.specs.Table.{rows_of}
use Rattle.ill_schema.specs.Unfit.{IsUnfit}
use Rattle.ill_schema.specs.Value.{content_of, apdu_with}
use Rattle.ill_schema.specs.declared.value.Value.{Value}
use Rattle.ill_parts.specs.Shape.{Is}
use Rattle.ill_apdu.specs.declared.apdu.Apdu.{Apdu}
use Rattle.ill_apdu.specs.Carried.{number_of, body_node_of, body_of, view_of}

pub node_is : (a : Apdu) → apdu_node_of (number_of a) ≡ Some (body_node_of a)
node_is (Apdu.IllRequest p) = refl
node_is (Apdu.Shipped p) = refl
node_is (Apdu.IllAnswer p) = refl
node_is (Apdu.ConditionalReply p) = refl
node_is (Apdu.Cancel p) = refl
node_is (Apdu.CancelReply p) = refl
node_is (Apdu.Received p) = refl
node_is (Apdu.Recall p) = refl
node_is (Apdu.Returned p) = refl
node_is (Apdu.CheckedIn p) = refl
node_is (Apdu.Overdue p) = refl
node_is (Apdu.Renew p) = refl
node_is (Apdu.RenewAnswer p) = refl
node_is (Apdu.Lost p) = refl
node_is (Apdu.Damaged p) = refl
node_is (Apdu.MessageApdu p) = refl
node_is (Apdu.StatusQuery p) = refl
node_is (Apdu.Expired p) = refl

-- a body that fits its node is unfit for its length alone
pub unfit_is_long : (u : Unfit) (b : NumberedBody) (node : NodeId) → apdu_node_of b.number ≡ Some node → Fits profile_two b.body node → IsUnfit u b
    → profile_two.limit < length (normal_form b)
unfit_is_long NotCarried b node e fits h = absurd (cc)
unfit_is_long DoesNotFit b node e fits h =
    let n : apdu_node_of b.number ≡ Some h.0 = h.1 in
    let same : node ≡ h.0 = cc in
    absurd (h.2 (subst (λ m. Fits profile_two b.body m) same fits))
unfit_is_long TooLong b node e fits h = h.1

is_carried : (presence : Presence) (m : NodeId) → IsCarried presence → carried presence m ≡ Some m
is_carried Presence.LeftOut m h = absurd h
is_carried _ m h = refl

if_false : {A : Type 0} (b : Bool) (x y : A) → b ≡ false → (if b then x else y) ≡ y
if_false true x y e = absurd (cc)
if_false false x y e = refl

row_node : (n : ℕ) (row : Row) → 1 ≤ n → slice_get (rows_of IllApdu) (n - 1) ≡ Some row → IsCarried row.presence → apdu_node_of n ≡ Some row.node
row_node zero row h e c = absurd (omega (arith, h))
row_node (suc n) row h e c =
    if_false (nat_eq (suc n) 0) None (carried_node (slice_get (rows_of IllApdu) (suc n - 1))) (eqb-suc-zero n)
    ∙ ap carried_node e ∙ is_carried row.presence row.node c

-- the body of an APDU fits the node of its number
pub body_fits : (b : NumberedBody) (node : NodeId) → FitsApdu profile_two b → apdu_node_of b.number ≡ Some node → Fits profile_two b.body node
body_fits b node fits e =
    let row = fits.1.0 in
    let alternative = fits.1.1 in
    let is = row_node b.number row fits.0 alternative.1 alternative.2 in
    let same : row.node ≡ node = cc in
    subst (λ m. Fits profile_two b.body m) same fits.1.2

-- what fits it, as the content of a value
pub body_is : (b : NumberedBody) (node : NodeId) (v : Content) → v ≡ b.body → FitsApdu profile_two b → apdu_node_of b.number ≡ Some node → Is node v
unfolding Is
body_is b node v same fits e = rw same (body_fits b node fits e)

-- an APDU's view is its number and what its body is read as
pub view_is : (b : NumberedBody) (n k : ℕ) (c v : Content) → n ≡ b.number → n ≡ k → c ≡ v → v ≡ b.body → record { number = k; body = c } ≡ b
view_is b n k c v number is same body = ap₂ (λ (x : ℕ) (y : Content). record { number = x; body = y }) (sym is ∙ number) (same ∙ body)

-- no carried row, numbered from k on, has the number n
abbrev pub NotIn : List Row → ℕ → ℕ → Type 0
NotIn [] k n = Unit {0}
NotIn (row ∷ rows) k n = (IsCarried row.presence → n ≢ k) × NotIn rows (suc k) n

not_in : (rows : List Row) (k n j : ℕ) (row : Row) → NotIn rows k n → n ≡ k + j → slice_get rows j ≡ Some row → IsCarried row.presence → ⊥
not_in [] k n j row h e s c = absurd (cc)
not_in (r ∷ rows) k n zero row h e s c =
    let same : row ≡ r = cc in
    h.0 (subst (λ x. IsCarried x.presence) same c) (omega (arith, e))
not_in (r ∷ rows) k n (suc j) row h e s c = not_in rows (suc k) n j row h.1 (omega (arith, e)) s c

-- an APDU has the number of a carried row
pub is_in : (b : NumberedBody) → FitsApdu profile_two b → NotIn (rows_of IllApdu) 1 b.number → ⊥
is_in b fits h =
    let above : 1 ≤ b.number = fits.0 in
    let alternative = fits.1.1 in
    not_in (rows_of IllApdu) 1 b.number (b.number - 1) fits.1.0 h (omega (arith, above)) alternative.1 alternative.2

abbrev numbered : ℕ → Content → NumberedBody
numbered n c = record { number = n; body = c }

-- an APDU that has no message is too long
pub has_none_is_long : (u : Unfit) (a : Apdu) (n : ℕ) (body : Value) → n ≡ number_of a → content_of body ≡ body_of a → Is (body_node_of a) (content_of body)
    → IsUnfit u (apdu_with n body) → profile_two.limit < length (normal_form (view_of a))
unfolding Is
has_none_is_long u a n body same value fits unfit =
    let long = unfit_is_long u (apdu_with n body) (body_node_of a) (ap apdu_node_of same ∙ node_is a) fits unfit in
    let is : apdu_with n body ≡ view_of a = ap (λ k. numbered k (content_of body)) same ∙ ap (numbered (number_of a)) value in
    subst (λ b. profile_two.limit < length (normal_form b)) is long
