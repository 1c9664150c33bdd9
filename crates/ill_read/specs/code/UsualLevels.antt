-- The open elements of a usual message, while it is read.
use Rattle.std.specs.Prelude.{◌≡◌, ℕ, suc, ◌+◌, ◌-◌, ◌*◌, ◌≤◌, ◌<◌, true, List, [], ◌∷◌, length, reverse}
use Rattle.std.specs.List.{between}
use Rattle.ill_tables.specs.declared.profile.Profile.{Profile as Named}
use Rattle.ill_grammar.specs.Standing.{top_part}
use Rattle.ill_grammar.specs.code.Spots.{is_constructed, spot_next}
use Rattle.ill_grammar.specs.declared.due.Next.{Next}
use Rattle.ill_grammar.specs.declared.element.Element.{Element as CodeElement}
use Rattle.ill_grammar.specs.declared.element.Element.TheVariants.{Wrapper}
use Rattle.ill_grammar.specs.declared.spot.Spot.{Spot}
use Rattle.ill_read.specs.code.Usual.{HasRead, IsHeaded, IsSized}
use Rattle.ill_read.specs.declared.usual.header.Header.{Header}
use Rattle.ill_read.specs.declared.usual.input.Input.{Input}
use Rattle.ill_read.specs.declared.usual.level.Level.{Level}
use Rattle.ill_read.specs.declared.usual.level.Standing.{Standing}
use Rattle.ill_read.specs.declared.usual.writing.TheConstants.{FREE_LEN}

-- an element opens behind its header
pub record OpensIn (input : Input) (h : Header) (out : List ℕ) (to : Standing) : Type 0 where
  pub spot : to.level.spot ≡ h.element.first
  pub taken : (h.length.taken < to.reach.taken) × (to.reach.taken ≤ to.level.bound) × (to.level.bound ≤ input.bound)
  pub written : (to.level.length_at ≡ h.length.written) × (h.length.written < to.level.start) × (to.reach.written ≡ to.level.start) × (to.level.start + FREE_LEN ≤ length out)
  pub sized : IsSized to.level.is_definite (to.level.bound - to.reach.taken) (between h.length.taken to.reach.taken input.octets.now)

-- an element whose contents begin at an offset is open in another, of which all before its header was read
pub record IsIn (p : Named) (input : Input) (out : List ℕ) (outer level : Level) (e : CodeElement) (k begin : ℕ) : Type 0 where
  pub round : CodeElement
  pub round_begin : ℕ
  pub next : Next
  pub header : Header
  pub read : HasRead p round next (suc k) (between round_begin header.from.taken input.octets.now) (between outer.start header.from.written out)
  pub headed : IsHeaded next input header out
  pub is : headed.0.element ≡ e
  pub opens : is_constructed header.element.kind ≡ true
  pub after : spot_next header.element.after ≡ spot_next outer.spot
  pub sized : IsSized level.is_definite (level.bound - begin) (between header.length.taken begin input.octets.now)
  pub bound : (level.bound ≤ outer.bound) × (outer.bound ≤ input.bound)
  pub taken : (round_begin ≤ header.from.taken) × (header.from.taken < header.length.taken) × (header.length.taken ≤ begin)
  pub written : (outer.start ≤ header.from.written) × (header.from.written < header.length.written) × (header.length.written ≡ level.length_at) × (level.length_at < level.start)
  pub ordered : outer.length_at ≤ outer.start

-- the levels round an open element, innermost first; the outermost is the message's
abbrev pub IsRound : Named → Input → List ℕ → List Level → Level → CodeElement → ℕ → ℕ → Type 0
IsRound p input out [] level e k begin = (e ≡ Wrapper (top_part p)) × (begin ≡ 0) × (level.start ≡ 0)
IsRound p input out (outer ∷ levels) level e k begin = (i : IsIn p input out outer level e k begin) × IsRound p input out levels outer i.round (suc k) i.round_begin

-- a message was read up to there, in the innermost of its levels
pub record IsReading (p : Named) (input : Input) (outer : List Level) (at : Standing) (out : List ℕ) : Type 0 where
  pub element : CodeElement
  pub levels : ℕ
  pub begin : ℕ
  pub read : HasRead p element (spot_next at.level.spot) levels (between begin at.reach.taken input.octets.now) (between at.level.start at.reach.written out)
  pub taken : (begin ≤ at.reach.taken) × (at.reach.taken ≤ at.level.bound) × (at.level.bound ≤ input.bound)
  pub written : (at.level.length_at ≤ at.level.start) × (at.level.start ≤ at.reach.written) × (at.reach.written + FREE_LEN ≤ length out)
  pub deep : (levels + length outer ≡ 32) × (length outer ≤ 11)
  pub round : IsRound p input out (reverse outer) at.level element levels begin

-- a level behind an element that was read in it
abbrev pub level_after : Level → Spot → Level
level_after l spot = record { spot = spot; is_definite = l.is_definite; bound = l.bound; length_at = l.length_at; start = l.start }

-- what is left to read: two for each octet, and one for each level that ends
abbrev pub to_read : Input → List Level → Standing → ℕ
to_read input outer at = 2 * (input.bound - at.reach.taken) + length outer
