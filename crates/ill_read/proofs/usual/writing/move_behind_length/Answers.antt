use Rattle.std.proofs.Common.{◌≡◌, ◌∙◌, ◌+◌, ◌-◌, ◌++◌, length, take, drop, sym, ap, ap₂, subst, arith, length-drop}
use Rattle.std.proofs.lemmas.List.{take_rest}
use Rattle.ber_tree.specs.Length.{shortest_length}
use Rattle.ill_read.specs.code.Usual.{Puts}
use Rattle.ill_read.proofs.UsualWrites.{between_split}
use Rattle.ill_read.proofs.usual.writing.move_behind_length.Goals as goal

pub returns-clause-put : goal.returns-clause-put
returns-clause-put c =
    let at = c.args.length_at in
    let size = c.args.size in
    let first = c.put_length-first.result in
    let room = c.put_length-first.new.room in
    let start = at + (9 - first) in
    let os = take (9 - first) (drop first room) in
    let nine = c.put_length-first.array_long in
    let is : os ≡ shortest_length size = ap (λ n. take (n - first) (drop first room)) (sym nine) ∙ take_rest room first ∙ c.put_length-first.ensures.octets in
    let long : length os ≡ 9 - first = ap (λ n. length (take (n - first) (drop first room))) (sym nine) ∙ ap length (take_rest room first) ∙ length-drop first room ∙ ap (λ n. n - first) nine in
    let put = subst (λ n. Puts c.move_to.new.out c.copy.new.out at (at + n) os) long c.copy.ensures.put in
    let behind = subst (λ n. drop (at + n) c.copy.new.out ≡ drop (at + n) c.move_to.new.out) long c.copy.ensures.behind in
    let moved = c.move_to.ensures in
    let first_le = c.put_length-first.ensures.some in
    record {
      room = put.room ∙ moved.room;
      forward = (omega arith, omega (arith, put.room, moved.room, c.if-out-size.false, c.requires.room));
      before = put.before ∙ moved.before at (omega arith) (omega (arith, c.requires.order));
      put = between_split c.copy.new.out at start (start + size) (omega arith) (omega arith)
          ∙ ap₂ (λ x y. x ++ y) (put.put ∙ is) (ap (λ xs. take (start + size - start) xs) behind ∙ moved.moved);
    }
