-- What is made of a message is what the job writes of it.
use Rattle.std.proofs.Common.{◌≡◌, ℕ, Bool, true, false, List, ◌++◌, codes, length, Option, Some, None, Vec, Global, IsTrue, ◌↔◌, ap, ap₂, ◌∙◌, sym}
use Rattle.hex.specs.Hex.{encode_lower}
use Rattle.sha2.specs.Sha256.{sha256}
use Rattle.ber_leaf.specs.Profile.{Profile}
use Rattle.ill_schema.specs.Apdu.{Apdu, SpellsApdu, normal_form_in}
use Rattle.ill_schema.specs.Profiles.{profile_of}
use Rattle.ill_grammar.specs.Outline.{IsOutlineOf}
use Rattle.ill_grammar.specs.declared.outline.Outline.{Outline}
use Rattle.ill_inputs.specs.Inputs.{label_of}
use Rattle.ill_normal.specs.Messages.{Spelling, spelling, is_normal}
use Rattle.ill_normal.specs.ReadMessages.{IsMessage}
use Rattle.ill_normal.specs.declared.check.Checked.{Checked}
use Rattle.ill_normal.specs.declared.message_reader.ReadMessage.{ReadMessage}
use Rattle.ill_normal.specs.declared.message_reader.Wants.{Wants}
use Rattle.ill_normal.specs.declared.messages.MessagePlace.{MessagePlace}
use Rattle.ill_normal.proofs.NormalTest.{tests_equality}
use Rattle.ill_text.specs.Shown.{shown_text_in}
use Rattle.ill_json.specs.Json.{json_line_in}
use Rattle.ill_commands.specs.Output.{file_of, good_if, head_of, line_of_check, line_of_digest, line_of_result, result_line}
use Rattle.ill_commands.specs.code.Writing.{IsCheckOf, IsPieceOf, IsWritten}
use Rattle.ill_commands.specs.declared.job.Job.{Job}
use Rattle.ill_commands.specs.declared.job.JobOptions.{JobOptions}
use Rattle.ill_commands.specs.declared.written.JobOutput.{JobOutput}

module _ (work : JobOptions) (p : MessagePlace) where
  abbrev q : Profile
  q = profile_of work.profile

  module _ (text : Vec ℕ Global) (m : Spelling) (x : Checked) (h : IsCheckOf q x m) where
    pub makes_checked : text.items ≡ line_of_check q (label_of work.names_input work.name.now) p.number x.apdu x.octets x.is_normal x.normal
        → IsPieceOf Job.Check work p (record { text = JobOutput.Octets text; is_good = x.is_normal }) m
    makes_checked e =
        let i = p.number in
        let label = label_of work.names_input work.name.now in (
          e ∙ ap (λ n. line_of_check q label i n x.octets x.is_normal x.normal) h.0 ∙ ap (λ n. line_of_check q label i m.apdu.number n x.is_normal x.normal) h.1
              ∙ ap (λ (t : Bool). line_of_check q label i m.apdu.number (length m.octets) t x.normal) h.3
              ∙ ap (λ n. line_of_check q label i m.apdu.number (length m.octets) (is_normal q m) n) h.2,
          h.3,
        )

    -- the line of JSON of a message that was checked
    result_same : (digest : Option (List ℕ)) → line_of_result q work.names_input work.name.now p x.apdu x.octets x.is_normal digest ≡ result_line q work.names_input work.name.now p m digest
    result_same digest =
        let name = work.name.now in
        let named = work.names_input in
        ap (λ n. line_of_result q named name p n x.octets x.is_normal digest) h.0 ∙ ap (λ n. line_of_result q named name p m.apdu.number n x.is_normal digest) h.1
        ∙ ap (λ (t : Bool). line_of_result q named name p m.apdu.number (length m.octets) t digest) h.3

    pub makes_check_json : text.items ≡ line_of_result q work.names_input work.name.now p x.apdu x.octets x.is_normal None
        → IsPieceOf Job.CheckJson work p (record { text = JobOutput.Octets text; is_good = x.is_normal }) m
    makes_check_json e = (e ∙ result_same None, h.3)

    pub makes_digest_json : (normal : List ℕ) → normal ≡ normal_form_in q m.apdu → text.items ≡ line_of_result q work.names_input work.name.now p x.apdu x.octets x.is_normal (Some (sha256 normal))
        → IsPieceOf Job.DigestJson work p (record { text = JobOutput.Octets text; is_good = x.is_normal }) m
    makes_digest_json normal same e =
        (e ∙ ap (λ l. line_of_result q work.names_input work.name.now p x.apdu x.octets x.is_normal (Some (sha256 l))) same ∙ result_same (Some (sha256 (normal_form_in q m.apdu))), h.3)

  module _ (w : Wants) (message : ReadMessage) (b : List ℕ) (h : IsMessage q w message b) (good : Bool) where
    -- the normal form as it is, and in digits
    pub makes_normal : work.hex ≡ false → good ≡ good_if q work.compares (spelling h.apdu b)
        → IsPieceOf Job.Canonicalise work p (record { text = JobOutput.Octets message.normal; is_good = good }) (spelling h.apdu b)
    makes_normal binary e = rw binary (h.normal, e)

    pub makes_hex : (text : Vec ℕ Global) → work.hex ≡ true → good ≡ good_if q work.compares (spelling h.apdu b) → text.items ≡ encode_lower message.normal.items ++ codes "\n"
        → IsPieceOf Job.Canonicalise work p (record { text = JobOutput.Octets text; is_good = good }) (spelling h.apdu b)
    makes_hex text digits e line = rw digits (line ∙ ap (λ l. encode_lower l ++ codes "\n") h.normal, e)

    pub makes_digest : (text : Vec ℕ Global) → good ≡ good_if q work.compares (spelling h.apdu b) → text.items ≡ line_of_digest (sha256 message.normal.items) work.name.now p.number
        → IsPieceOf Job.Digest work p (record { text = JobOutput.Octets text; is_good = good }) (spelling h.apdu b)
    makes_digest text e line = (line ∙ ap (λ l. line_of_digest (sha256 l) work.name.now p.number) h.normal, e)

    pub makes_shown : (outline : Outline) (text : JobOutput)
        → ((a : Apdu) (octets : List ℕ) → SpellsApdu q a octets → IsOutlineOf outline a → IsWritten text (label_of work.names_input work.name.now ++ shown_text_in q p.number a))
        → IsOutlineOf outline h.apdu → good ≡ good_if q work.compares (spelling h.apdu b) → IsPieceOf Job.Show work p (record { text = text; is_good = good }) (spelling h.apdu b)
    makes_shown outline text is kept e = (is h.apdu b h.spells kept, e)

    pub makes_json : (text : Vec ℕ Global) → ((a : Apdu) → IsOutlineOf message.outline a → text.items ≡ json_line_in q (file_of work.names_input work.name.now) (head_of p message.len good) a)
        → IsTrue w.outline → good ≡ is_normal q (spelling h.apdu b) → IsPieceOf Job.Json work p (record { text = JobOutput.Octets text; is_good = good }) (spelling h.apdu b)
    makes_json text is kept e =
        (is h.apdu (h.outline kept) ∙ ap₂ (λ (n : ℕ) (t : Bool). json_line_in q (file_of work.names_input work.name.now) (head_of p n t) h.apdu) h.size e, e)

-- the octets that were kept were compared with the normal form
pub tells_normal : (r : Profile) (w : Wants) (m : ReadMessage) (b : List ℕ) (h : IsMessage r w m b) → IsTrue w.spelled → (t : Bool) → IsTrue t ↔ (m.spelled.items ≡ m.normal.items)
    → t ≡ is_normal r (spelling h.apdu b)
tells_normal r w m b h kept t e =
    tests_equality t b (normal_form_in r h.apdu) (λ x. sym (h.spelled kept) ∙ e.0 x ∙ h.normal, λ x. e.1 (h.spelled kept ∙ x ∙ sym h.normal))
