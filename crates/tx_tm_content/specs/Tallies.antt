-- Tags of what may be a collection, counted as they are in paragraphs.
use Rattle.std.specs.Prelude.{◌≤◌, ◌+◌, ℕ, suc, Bool, true, false, nat_lt, List, [], ◌∷◌, Option, Some}
use Rattle.tx_tree.specs.declared.TheConstants.{MOST_ARITY, MOST_SIZE}
use Rattle.tx_tree.specs.WideTree.{size_of}
use Rattle.tx_tm_form.specs.declared.bytes.White.{White}
use Rattle.tx_tm_form.specs.declared.bytes.White.TheVariants.{Break}
use Rattle.tx_tm_form.specs.Growing.{CollectionEntry}
use Rattle.tx_tm_content.specs.declared.tag_rows.Tally.{Tally}

-- a tag after the run is the first of a paragraph, after so many tags of another
abbrev pub begins_paragraph : Option White → ℕ → Bool
begins_paragraph (Some Break) tags = nat_lt 0 tags
begins_paragraph run tags = false

abbrev pub tally_at : Bool → Tally → ℕ → Tally
tally_at true n size = record { ended = suc n.ended; tags = 1; size = n.size + size }
tally_at false n size = record { ended = n.ended; tags = suc n.tags; size = n.size + size }

abbrev pub tally_more : Tally → CollectionEntry → Tally
tally_more n e = tally_at (begins_paragraph e.before n.tags) n (size_of e.tree)

abbrev pub tally_from : Tally → List CollectionEntry → Tally
tally_from n [] = n
tally_from n (e ∷ es) = tally_from (tally_more n e) es

abbrev pub no_tally : Tally
no_tally = record { ended = 0; tags = 0; size = 0 }

abbrev pub tally_of : List CollectionEntry → Tally
tally_of es = tally_from no_tally es

-- so many may be in a collection or in a document within the limits
pub record IsTallyWithinLimits (n : Tally) : Type 0 where
  pub ended : n.ended ≤ MOST_ARITY
  pub tags : n.tags ≤ MOST_ARITY
  pub size : n.size ≤ MOST_SIZE
