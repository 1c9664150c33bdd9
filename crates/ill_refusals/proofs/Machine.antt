-- A machine that goes from place to place.
use Rattle.std.proofs.Common.{◌≡◌, ℕ, zero, suc, ◌+◌, ◌*◌, List, [], length, refl, sym, ap, ◌∙◌, arith}
use Rattle.ber_leaf.specs.Profile.{Profile}
use Rattle.ill_refusals.specs.Place.{Open}
use Rattle.ill_refusals.specs.code.Judge.{judge}
use Rattle.ill_refusals.specs.code.Step.{Step, refused, goes, whole, stuck, step_after}

abbrev pub step : Profile → List Open → ℕ → List ℕ → Step
step p path k rest = step_after (judge p path k rest) path k rest

abbrev pub next : Profile → Step → Step
next p (goes path k rest) = step p path k rest
next p (refused f) = refused f
next p (whole T n) = whole T n
next p stuck = stuck

-- n steps further
abbrev pub after : Profile → ℕ → Step → Step
after p zero st = st
after p (suc n) st = after p n (next p st)

abbrev pub Runs : Profile → Step → Step → Type 0
Runs p a b = (n : ℕ) × (after p n a ≡ b)

pub after-sum : (p : Profile) (m n : ℕ) (a : Step) → after p (m + n) a ≡ after p n (after p m a)
after-sum p zero n a = let e : zero + n ≡ n = omega arith in ap (λ k. after p k a) e
after-sum p (suc m) n a = let e : suc m + n ≡ suc (m + n) = omega arith in ap (λ k. after p k a) e ∙ after-sum p m n (next p a)

pub runs-none : (p : Profile) (a : Step) → Runs p a a
runs-none p a = (0, refl)

pub runs-step : (p : Profile) (path : List Open) (k : ℕ) (rest : List ℕ) (b : Step) → step p path k rest ≡ b → Runs p (goes path k rest) b
runs-step p path k rest b e = (1, e)

pub runs-trans : (p : Profile) (a b c : Step) → Runs p a b → Runs p b c → Runs p a c
runs-trans p a b c h k = (h.0 + k.0, after-sum p h.0 k.0 a ∙ ap (after p k.0) h.1 ∙ k.1)

-- the machine stays there
abbrev pub IsFinal : Step → Type 0
IsFinal (goes path k rest) = ⊥
IsFinal _ = Unit {0}

stays : (p : Profile) (n : ℕ) (a : Step) → IsFinal a → after p n a ≡ a
stays p zero a h = refl
stays p (suc n) (refused f) h = stays p n (refused f) h
stays p (suc n) (whole T k) h = stays p n (whole T k) h
stays p (suc n) stuck h = stays p n stuck h
stays p (suc n) (goes path k rest) h = absurd h

-- a machine is a function: it ends in one way
pub one_end : (p : Profile) (a b c : Step) → IsFinal b → IsFinal c → Runs p a b → Runs p a c → b ≡ c
one_end p a b c f g h k =
    let e : h.0 + k.0 ≡ k.0 + h.0 = omega arith in
    sym (after-sum p h.0 k.0 a ∙ ap (after p k.0) h.1 ∙ stays p k.0 b f) ∙ ap (λ n. after p n a) e ∙ after-sum p k.0 h.0 a ∙ ap (after p h.0) k.1 ∙ stays p h.0 c g

-- each step consumes two octets at least or closes an element, so these are enough
abbrev pub read : Profile → List ℕ → Step
read p s = after p (2 * length s + 2) (goes [] 0 s)
