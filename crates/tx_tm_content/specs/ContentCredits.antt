-- Nodes of content that are paid for and haven't been made yet: each line with a tag has one for its concat, and each
-- tag of what may be a collection one for the line that it may be in.
use Rattle.std.specs.Prelude.{ℕ, min, length, Option, Some, Result, Ok}
use Rattle.tx_tm_form.specs.Growing.{Inline, Content, inline, blocks, collecting}
use Rattle.tx_tm_content.specs.declared.blocks.Body.{Body}
use Rattle.tx_tm_content.specs.Blocks.{content_of}

abbrev pub line_credit : Inline → ℕ
line_credit g = min 1 (length g.done)

abbrev pub content_credit : Content → ℕ
content_credit (inline p g) = line_credit g
content_credit (blocks b) = line_credit b.now
content_credit (collecting x) = length x.entries

-- what is left of it after a result, which is nothing after a refusal
abbrev pub left : {A : Type 0} {E : Type 0} → (A → ℕ) → Result (Option A) E → ℕ
left credit (Ok (Some x)) = credit x
left credit _ = 0

abbrev pub body_credit : Body → ℕ
body_credit b = content_credit (content_of b)
