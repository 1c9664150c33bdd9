-- The content of a value: the tree that it stands for.
use Rattle.std.specs.Prelude.{ℕ}
use Rattle.ber_tree.specs.Tree.{Tree}
use Rattle.ber_leaf.specs.Simple.{Simple}

mutual
  pub data Content : Type 0 where
    simple : Simple → Content
    sequence : Entries → Content
    list : Items → Content
    alternative : ℕ → Content → Content
    -- of an open type: the element itself
    foreign : Tree → Content

  -- the entries of a sequence, one for each row
  pub data Entries : Type 0 where
    no_entries : Entries
    absent : Entries → Entries
    present : Content → Entries → Entries

  pub data Items : Type 0 where
    no_items : Items
    item : Content → Items → Items
