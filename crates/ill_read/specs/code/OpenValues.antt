-- How the values that are held grow, and what is taken from them.
use Rattle.ill_tables.specs.declared.profile.Profile.TheVariants.{Two}
use Rattle.std.specs.Prelude.{◌≡◌, ℕ, List, [], ◌∷◌, ◌++◌, length, map, Option, Some, None, Result, Ok, Err, option_map}
use Rattle.ber_tree.specs.Identifier.{Tag}
use Rattle.ber_tree.specs.Tree.{Trees}
use Rattle.ill_schema.specs.Content.{Content, alternative}
use Rattle.ill_schema.specs.Content as content
use Rattle.ill_schema.specs.Value.{content_of, entries_content, items_content}
use Rattle.ill_tables.specs.declared.part.Row.{Row}
use Rattle.ill_schema.specs.declared.value.Value.{Value}
use Rattle.ill_grammar.specs.Standing.{Level, level_of, IsHeld}
use Rattle.ill_read.specs.Paths.{AreValues}
use Rattle.ill_grammar.specs.Contents.{absent_content}
use Rattle.ill_read.specs.code.Drafts.{IsContentOf, IsRightText, IsTextFault}
use Rattle.ill_read.specs.declared.failure.Failure.{Failure}
use Rattle.ill_grammar.specs.declared.frame.Frame.{Frame}
use Rattle.ill_read.specs.declared.value_draft.ApduValue.{ApduValue}
use Rattle.ill_read.specs.declared.value_draft.ValueDraft.{ValueDraft}
use Rattle.ill_grammar.specs.Due.{shape, read_as}

-- the entries of rows that have no element
abbrev pub AreAbsentEntries : List (Option Value) → List Row → Type 0
AreAbsentEntries entries rows = map (option_map content_of) entries ≡ map absent_content rows

-- rows without an element were passed
pub record HasAddedAbsent (rows : List Row) (old new : List (Option Value)) : Type 0 where
  pub entries : List (Option Value)
  pub added : new ≡ old ++ entries
  pub are : AreAbsentEntries entries rows

-- a value was added, after the entries of the rows before it
pub record HasAdded (rows : List Row) (v : Value) (old new : List (Option Value)) : Type 0 where
  pub entries : List (Option Value)
  pub added : new ≡ old ++ (entries ++ Some v ∷ [])
  pub are : AreAbsentEntries entries rows

-- the value is the sequence of the entries after the first `contents_start`, with those of the rows that are still to come
pub record IsSequence (rows : List Row) (contents_start : ℕ) (v : Value) (old new : List (Option Value)) : Type 0 where
  pub entries : List (Option Value)
  pub are : AreAbsentEntries entries rows
  pub is : (below held : List (Option Value)) → old ≡ below ++ held → length below ≡ contents_start → (new ≡ below) × (content_of v ≡ content.sequence (entries_content (held ++ entries)))

-- the value is the list of the items after the first `contents_start`
abbrev pub IsList : ℕ → Value → List (Option Value) → List (Option Value) → Type 0
IsList contents_start v old new = (below : List (Option Value)) (items : List Value) → old ≡ below ++ map Some items → length below ≡ contents_start → (new ≡ below) × (content_of v ≡ content.list (items_content items))

-- the entry is the last one, which is no longer held
abbrev pub IsLast : Option Value → List (Option Value) → List (Option Value) → Type 0
IsLast v old new = (below : List (Option Value)) (last : Option Value) → old ≡ below ++ last ∷ [] → (v ≡ last) × (new ≡ below)

-- what was found is the content
abbrev pub IsFound : Option Value → Content → Type 0
IsFound (Some v) c = content_of v ≡ c
IsFound None c = ⊥

-- the value of an element that has ended, with these levels round it, where its text is right
abbrev pub IsEnded : Frame → List (Option Content) → List Level → List ℕ → ValueDraft → Result (Option Value) Failure → Type 0
IsEnded f entries below text new (Ok found) = IsRightText Two (read_as f.found) text × ((trees : Trees) (c : Content)
    → IsHeld Two (read_as f.found) (shape f.place) entries trees → IsContentOf (read_as f.found) (shape f.place) entries text c → IsFound found c × AreValues new below [])
IsEnded f entries below text new (Err failure) = IsTextFault Two (read_as f.found) f.start text failure

abbrev pub EndsExactly : ValueDraft → Frame → ValueDraft → Result (Option Value) Failure → Type 0
EndsExactly old f new result = (tag : Tag) (entries : List (Option Content)) (below : List Level) (text : List ℕ)
    → AreValues old (level_of f tag entries ∷ below) text → IsEnded f entries below text new result

-- the body of a message, where the content is an APDU's
abbrev pub IsBodyOf : Option ApduValue → Content → Type 0
IsBodyOf (Some body) c = c ≡ alternative body.row (content_of body.value)
IsBodyOf None c = (n : ℕ) (d : Content) → c ≡ alternative n d → ⊥
