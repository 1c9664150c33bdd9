-- Values of profile 2 as values of the module profile.
use Rattle.std.specs.Prelude.{◌-◌, Bool, true, false, ◌&&◌, not, List, [], ◌∷◌, Some, None, slice_get}
use Rattle.ill_tables.specs.declared.{node.NodeId.NodeId, part.Row.Row}
use Rattle.ill_tables.specs.declared.node.NodeId.TheVariants.{Conditional, IllApdu, UnitsPerMedium, WillSupply}
use Rattle.ill_schema.specs.Apdu.{Apdu, choice_of}
use Rattle.ill_schema.specs.Content.{Content, simple, sequence, list, alternative, foreign, Entries, no_entries, absent, present, Items, no_items, item}
use Rattle.ill_tables.specs.Table.{rows_of}

-- the entries of the rows that profile 2 doesn't have: Conditional's last
abbrev pub added_entries : NodeId → Entries
added_entries Conditional = absent no_entries
added_entries node = no_entries

abbrev mutual
  -- a value of profile 2 as one of the module profile: each Conditional has one entry more, which is absent
  pub lift : Content → NodeId → Content
  lift (simple v) node = simple v
  lift (sequence es) node = sequence (lift_entries es (rows_of node) (added_entries node))
  lift (list is) node = list (lift_items is (rows_of node))
  lift (alternative n c) node = alternative n (elim (slice_get (rows_of node) n) as (λ _. Content) [ Some row ↦ lift c row.node | None ↦ c ])
  lift (foreign V) node = foreign V

  pub lift_entries : Entries → List Row → Entries → Entries
  lift_entries no_entries rows others = others
  lift_entries (absent es) (row ∷ rows) others = absent (lift_entries es rows others)
  lift_entries (present c es) (row ∷ rows) others = present (lift c row.node) (lift_entries es rows others)
  lift_entries es [] others = es

  pub lift_items : Items → List Row → Items
  lift_items no_items rows = no_items
  lift_items (item c is) (row ∷ rows) = item (lift c row.node) (lift_items is (row ∷ rows))
  lift_items (item c is) [] = item c is

abbrev pub lift_apdu : Apdu → Apdu
lift_apdu a = record {
  number = a.number;
  body = elim (slice_get (rows_of IllApdu) (a.number - 1)) as (λ _. Content) [ Some row ↦ lift a.body row.node | None ↦ a.body ];
}

-- the types with rows whose tag is explicit in the module alone
abbrev pub is_retagged : NodeId → Bool
is_retagged UnitsPerMedium = true
is_retagged WillSupply = true
is_retagged node = false

abbrev mutual
  -- a value of profile 2 with none of these types
  pub is_plain : Content → NodeId → Bool
  is_plain (simple v) node = true
  is_plain (sequence es) node = not (is_retagged node) && are_plain es (rows_of node)
  is_plain (list is) node = items_plain is (rows_of node)
  is_plain (alternative n c) node = elim (slice_get (rows_of node) n) as (λ _. Bool) [ Some row ↦ is_plain c row.node | None ↦ true ]
  is_plain (foreign V) node = true

  pub are_plain : Entries → List Row → Bool
  are_plain (absent es) (row ∷ rows) = are_plain es rows
  are_plain (present c es) (row ∷ rows) = is_plain c row.node && are_plain es rows
  are_plain _ _ = true

  pub items_plain : Items → List Row → Bool
  items_plain (item c is) (row ∷ rows) = is_plain c row.node && items_plain is (row ∷ rows)
  items_plain _ _ = true

abbrev pub is_plain_apdu : Apdu → Bool
is_plain_apdu a = is_plain (choice_of a) IllApdu
