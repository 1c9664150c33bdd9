-- An item that is read row by row has the content of its value.
use Rattle.std.proofs.Common.{◌≡◌, ℕ, List, ◌∷◌, Option, option_map, refl, sym, ap, ◌∙◌}
use Rattle.ill_schema.specs.Content.{Content}
use Rattle.ill_tables.specs.declared.node.NodeId.TheVariants.{ItemId as ItemNode}
use Rattle.ill_tables.specs.Table.{rows_of}
use Rattle.ill_parts.specs.Shape.{record_of, RowsHold, entries_from, number_content, string_content}
use Rattle.ill_parts.specs.Views.{item_id}
use Rattle.ill_parts.specs.declared.item.ItemId.{ItemId}

row_is : (o u : Option Content) (os us : List (Option Content)) → o ≡ u → os ≡ us → (o ∷ os) ≡ (u ∷ us)
row_is o u os us e f = cc

pub item_is : (p : ItemId) (v : Content) (f : ℕ → Option Content)
    → v ≡ record_of (entries_from (rows_of ItemNode) f 0)
    → RowsHold (rows_of ItemNode) (entries_from (rows_of ItemNode) f 0)
    → option_map number_content p.item_type ≡ f 0
    → option_map number_content p.held_medium_type ≡ f 1
    → option_map string_content p.call_number ≡ f 2
    → option_map string_content p.author ≡ f 3
    → option_map string_content p.title ≡ f 4
    → option_map string_content p.sub_title ≡ f 5
    → option_map string_content p.sponsoring_body ≡ f 6
    → option_map string_content p.place_of_publication ≡ f 7
    → option_map string_content p.publisher ≡ f 8
    → option_map string_content p.series_title_number ≡ f 9
    → option_map string_content p.volume_issue ≡ f 10
    → option_map string_content p.edition ≡ f 11
    → option_map string_content p.publication_date ≡ f 12
    → option_map string_content p.publication_date_of_component ≡ f 13
    → option_map string_content p.author_of_article ≡ f 14
    → option_map string_content p.title_of_article ≡ f 15
    → option_map string_content p.pagination ≡ f 16
    → option_map string_content p.isbn ≡ f 18
    → option_map string_content p.issn ≡ f 19
    → option_map string_content p.additional_no_letters ≡ f 21
    → option_map string_content p.verification_reference_source ≡ f 22
    → item_id p ≡ v
unfolding item_id
item_is p v f value rows e0 e1 e2 e3 e4 e5 e6 e7 e8 e9 e10 e11 e12 e13 e14 e15 e16 e18 e19 e21 e22 =
    ap record_of (row_is _ _ _ _ e0 (row_is _ _ _ _ e1 (row_is _ _ _ _ e2 (row_is _ _ _ _ e3 (row_is _ _ _ _ e4 (row_is _ _ _ _ e5 (row_is _ _ _ _ e6 (row_is _ _ _ _ e7 (row_is _ _ _ _ e8 (row_is _ _ _ _ e9 (row_is _ _ _ _ e10 (row_is _ _ _ _ e11 (row_is _ _ _ _ e12 (row_is _ _ _ _ e13 (row_is _ _ _ _ e14 (row_is _ _ _ _ e15 (row_is _ _ _ _ e16 (row_is _ _ _ _ (sym rows.1.1.1.1.1.1.1.1.1.1.1.1.1.1.1.1.1.0) (row_is _ _ _ _ e18 (row_is _ _ _ _ e19 (row_is _ _ _ _ (sym rows.1.1.1.1.1.1.1.1.1.1.1.1.1.1.1.1.1.1.1.1.0) (row_is _ _ _ _ e21 (row_is _ _ _ _ e22 refl))))))))))))))))))))))) ∙ sym value
