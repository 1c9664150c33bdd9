-- What is said of a message whose octets were recorded.
use Rattle.std.proofs.Common.{◌≡◌, ◌↔◌, ℕ, List, length, IsTrue, sym, ap, ◌∙◌}
use Rattle.ber_leaf.specs.Profile.{Profile}
use Rattle.ill_schema.specs.Apdu.{Apdu, SpellsApdu, normal_form_in}
use Rattle.ill_read.specs.Answers.{IsNormalIn}
use Rattle.ill_read.specs.declared.normal.NormalForm.{NormalForm}
use Rattle.ill_normal.specs.Checking.{DescribesIn}
use Rattle.ill_normal.specs.declared.check.Checked.{Checked}

pub described : (p : Profile) (x : Checked) (n : NormalForm) (b recorded : List ℕ) → IsNormalIn p n b → recorded ≡ b
    → ((a : Apdu) (s : List ℕ) → SpellsApdu p a s → n.octets.items ≡ normal_form_in p a → x.apdu ≡ a.number)
    → x.octets ≡ n.input_len → x.normal ≡ length n.octets.items → IsTrue x.is_normal ↔ (recorded ≡ n.octets.items) → DescribesIn p x b
described p x n b recorded (a, spells, is, read) k number octets size normal =
    (a, spells, number a b spells is, octets ∙ read, size ∙ ap length is, (λ t. sym k ∙ normal.0 t ∙ is, λ e. normal.1 (k ∙ e ∙ sym is)))
