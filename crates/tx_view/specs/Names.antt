-- What crates above cite by name. They don't open these definitions.
use Rattle.std.specs.Prelude.{◌≡◌, ℕ, ◌+◌, List, [], map, length, None}
use Rattle.tx_mod.specs.declared.mods.Mod.{Mod}
use Rattle.tx_doc.specs.Buffers.{document_of, tree_of}
use Rattle.tx_doc.specs.declared.buffer.Buffer.{Buffer}
use Rattle.tx_units.specs.Units.{units}
use Rattle.tx_view_form.specs.Outcomes.{beginning}
use Rattle.tx_bridge.specs.Carrying.{had}
use Rattle.tx_bridge.specs.Entries.{units_of, nothing_kept}
use Rattle.tx_bridge.specs.Sound.{AllHold}
use Rattle.tx_bridge.specs.HeldParts.{AllPartsHold, StoredAllHold}
use Rattle.tx_bridge.specs.Names.{Charge, Sources, CarryTraces as CarryKept, CarryParts, CarryStrays, PartMoves}
use Rattle.tx_view.specs.Costs.{items_relaid_from}
use Rattle.tx_view.specs.LaidMoves.{laid_moves, laid_arrived, all_laid_now, AreAllOrNoneLaid}
use Rattle.tx_view.specs.Stores.{ViewStores, fresh_stores}

-- nothing is cached of the units of these buffers
unfoldable pub Empty : List Buffer → ViewStores
Empty buffers = record {
  kept = nothing_kept (units buffers);
  parts = map (λ u. []) (units buffers);
  laid = map (λ u. None) (units buffers);
  laid_parts = map (λ u. []) (units buffers);
  strays = [];
  laid_strays = [];
}

-- what making the view of these buffers from nothing leaves
unfoldable pub Fresh : List Buffer → ViewStores
Fresh buffers = fresh_stores (units buffers)

-- What a refresh takes: the charges of the units, and the items of those laid out anew. The charge of a paragraph of
-- the body is the costs of the parts for which nothing that is cached fits. That of another unit is its cost, where
-- nothing that is cached fits it. The items of a paragraph that doesn't run out of steps are those of the parts for
-- which nothing that is cached fits, or that aren't laid out for the attributes before them.
unfoldable pub Bound : ViewStores → ℕ
Bound s = Charge s.kept s.parts + items_relaid_from beginning s.kept s.parts s.laid s.laid_parts

-- What is left of the cache, where the modifications of a buffer make the new buffers of the old ones: of units, of
-- their parts and of strays. The layout of a part is carried by its path, each by itself.
unfoldable pub Carry : ℕ → List Mod → List Buffer → ViewStores → List Buffer → ViewStores
Carry buffer ms old s new = record {
  kept = CarryKept buffer ms (tree_of old buffer) s.kept (units new);
  parts =
      CarryParts s.parts (PartMoves buffer ms (tree_of old buffer) (units_of s.kept) s.parts s.strays (units new))
      (Sources buffer ms (tree_of old buffer) (units_of s.kept) (units new));
  laid = map (had s.laid) (Sources buffer ms (tree_of old buffer) (units_of s.kept) (units new));
  laid_parts =
      all_laid_now s.laid_parts
      (laid_moves buffer ms (tree_of old buffer) (units_of s.kept) s.laid_parts s.laid_strays (units new)) 0
      (Sources buffer ms (tree_of old buffer) (units_of s.kept) (units new));
  strays =
      CarryStrays (PartMoves buffer ms (tree_of old buffer) (units_of s.kept) s.parts s.strays (units new))
      (length (units new));
  laid_strays =
      laid_arrived
      (laid_moves buffer ms (tree_of old buffer) (units_of s.kept) s.laid_parts s.laid_strays (units new))
      (length (units new));
}

-- What is cached is of the units of these buffers, of their parts, and of strays, which are places of the document. The
-- trace of a unit, of a part or of a stray is that of its tree wherever what it looked up is as it was. Just the parts
-- and strays that are cached are laid out, or none is.
unfoldable pub Holds : List Buffer → ViewStores → Type 0
Holds buffers s =
    AllHold s.kept × AllPartsHold s.kept s.parts × (units_of s.kept ≡ units buffers)
    × (length s.laid ≡ length s.kept) × (length s.laid_parts ≡ length s.kept)
    × StoredAllHold (document_of buffers) s.strays
    × AreAllOrNoneLaid s.parts s.laid_parts s.strays s.laid_strays
