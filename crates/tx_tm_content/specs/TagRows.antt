-- Tags that may become the children of a collection, or be in paragraphs.
use Rattle.std.specs.Prelude.{◌≡◌, ℕ, List, map, Option, Some, None}
use Rattle.tx_tm_form.specs.Growing.{CollectionEntry}
use Rattle.tx_tm_content.specs.declared.tag_rows.TagEntry.{TagEntry}
use Rattle.tx_tm_content.specs.declared.tag_rows.Tally.{Tally}
use Rattle.tx_tm_content.specs.ContentFits.{TagRowFits}
use Rattle.tx_tm_content.specs.Tallies.{tally_of, IsTallyWithinLimits}

abbrev pub entry_of : TagEntry → CollectionEntry
entry_of e = record { before = e.before; collects = e.collects; tree = e.tree }

-- tags, as they are counted
pub record IsTagRow (es : List TagEntry) (n : Tally) : Type 0 where
  pub counted : n ≡ tally_of (map entry_of es)
  pub few : IsTallyWithinLimits n

-- these, or else they lead to no tree within the limits
abbrev pub IsTagRowed : Option (List TagEntry) → List TagEntry → Type 0
IsTagRowed None es = (around : ℕ) → TagRowFits around (map entry_of es) → ⊥
IsTagRowed (Some fs) es = fs ≡ es
