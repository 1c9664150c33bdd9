use Rattle.std.proofs.Common.{◌≡◌, ◌∙◌, ap}
use Rattle.json.specs.Value.{value_view}
use Rattle.ber_leaf.specs.Leaf.{iso_date, iso_time, object_descriptor, printable_string}
use Rattle.ill_schema.specs.Profiles.{profile_of}
use Rattle.ill_tables.specs.declared.node.Kind.{Kind}
use Rattle.ill_tables.specs.declared.node.LeafKind.{LeafKind}
use Rattle.ill_build.proofs.LeafNumbers.{IsWholeRead, enumerated_read, integer_read}
use Rattle.ill_build.proofs.LeafTexts.{IsTextRead, date_read, descriptor_read, of_kind, printable_read, time_read}
use Rattle.ill_build.proofs.leaf.read_leaf.Goals as goal

pub returns-in-Leaf-Integer-clause-said : goal.returns-in-Leaf-Integer-clause-said
returns-in-Leaf-Integer-clause-said c =
    let leaf = rw c.in-Leaf-Integer.is at c.in-Leaf-Integer.field-0-is in
    let kind : c.args.kind ≡ Kind.Leaf LeafKind.Integer = c.in-Leaf-Integer.is ∙ ap Kind.Leaf leaf in
    let p = profile_of c.args.context.profile in
    let name = c.args.name.now in
    let j = value_view c.args.value.now in
    of_kind p c.args.kind (Kind.Leaf LeafKind.Integer) name j c.read_whole.result (IsWholeRead name 2 j) kind (integer_read p name j) c.read_whole.ensures.said

pub returns-in-Leaf-Enumerated-clause-said : goal.returns-in-Leaf-Enumerated-clause-said
returns-in-Leaf-Enumerated-clause-said c =
    let leaf = rw c.in-Leaf-Enumerated.is at c.in-Leaf-Enumerated.field-0-is in
    let kind : c.args.kind ≡ Kind.Leaf LeafKind.Enumerated = c.in-Leaf-Enumerated.is ∙ ap Kind.Leaf leaf in
    let p = profile_of c.args.context.profile in
    let name = c.args.name.now in
    let j = value_view c.args.value.now in
    of_kind p c.args.kind (Kind.Leaf LeafKind.Enumerated) name j c.read_whole-in-Leaf-Enumerated.result (IsWholeRead name 10 j) kind (enumerated_read p name j)
    c.read_whole-in-Leaf-Enumerated.ensures.said

pub returns-in-Leaf-Date-clause-said : goal.returns-in-Leaf-Date-clause-said
returns-in-Leaf-Date-clause-said c =
    let leaf = rw c.in-Leaf-Date.is at c.in-Leaf-Date.field-0-is in
    let kind : c.args.kind ≡ Kind.Leaf LeafKind.Date = c.in-Leaf-Date.is ∙ ap Kind.Leaf leaf in
    let p = profile_of c.args.context.profile in
    let name = c.args.name.now in
    let j = value_view c.args.value.now in
    of_kind p c.args.kind (Kind.Leaf LeafKind.Date) name j c.read_text.result (IsTextRead p iso_date 26 j) kind (date_read p name j) c.read_text.ensures.said

pub returns-in-Leaf-Time-clause-said : goal.returns-in-Leaf-Time-clause-said
returns-in-Leaf-Time-clause-said c =
    let leaf = rw c.in-Leaf-Time.is at c.in-Leaf-Time.field-0-is in
    let kind : c.args.kind ≡ Kind.Leaf LeafKind.Time = c.in-Leaf-Time.is ∙ ap Kind.Leaf leaf in
    let p = profile_of c.args.context.profile in
    let name = c.args.name.now in
    let j = value_view c.args.value.now in
    of_kind p c.args.kind (Kind.Leaf LeafKind.Time) name j c.read_text-in-Leaf-Time.result (IsTextRead p iso_time 26 j) kind (time_read p name j) c.read_text-in-Leaf-Time.ensures.said

pub returns-in-Leaf-Printable-clause-said : goal.returns-in-Leaf-Printable-clause-said
returns-in-Leaf-Printable-clause-said c =
    let leaf = rw c.in-Leaf-Printable.is at c.in-Leaf-Printable.field-0-is in
    let kind : c.args.kind ≡ Kind.Leaf LeafKind.Printable = c.in-Leaf-Printable.is ∙ ap Kind.Leaf leaf in
    let p = profile_of c.args.context.profile in
    let name = c.args.name.now in
    let j = value_view c.args.value.now in
    of_kind p c.args.kind (Kind.Leaf LeafKind.Printable) name j c.read_text-in-Leaf-Printable.result (IsTextRead p printable_string 19 j) kind (printable_read p name j)
    c.read_text-in-Leaf-Printable.ensures.said

pub returns-in-Leaf-ObjectDescriptor-clause-said : goal.returns-in-Leaf-ObjectDescriptor-clause-said
returns-in-Leaf-ObjectDescriptor-clause-said c =
    let leaf = rw c.in-Leaf-ObjectDescriptor.is at c.in-Leaf-ObjectDescriptor.field-0-is in
    let kind : c.args.kind ≡ Kind.Leaf LeafKind.ObjectDescriptor = c.in-Leaf-ObjectDescriptor.is ∙ ap Kind.Leaf leaf in
    let p = profile_of c.args.context.profile in
    let name = c.args.name.now in
    let j = value_view c.args.value.now in
    of_kind p c.args.kind (Kind.Leaf LeafKind.ObjectDescriptor) name j c.read_text-in-Leaf-ObjectDescriptor.result (IsTextRead p object_descriptor 7 j)
    kind (descriptor_read p name j) c.read_text-in-Leaf-ObjectDescriptor.ensures.said
