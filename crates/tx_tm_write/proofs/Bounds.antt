-- How long the text of a tree within the limits can be.
use Rattle.std.proofs.Common.{◌≡◌, ℕ, ◌+◌, ◌*◌, ◌<◌, ◌≤◌, Bool, true, false, ◌&&◌, not, cond, ◌==◌, List, [], ◌∷◌, ◌++◌}
use Rattle.std.proofs.Common.{length, length-append, arith}
use Rattle.tx_tree.specs.Labels.{IsLabel}
use Rattle.tx_tree.specs.WideTree.{WideTree, Forest, leaf, node, nil, cons, size_of, total_size}
use Rattle.tx_tree.specs.Limits.{IsWellFormed, AreWellFormed}
use Rattle.tx_tm_form.specs.Parts.{same_bytes, document_label, collection_label}
use Rattle.tx_tm_write.specs.Shapes.{some, is_block, has_block, is_empty, stays_inline, is_raw, is_long, text_or_empty}
use Rattle.tx_tm_write.specs.Shapes.{digits_of}
use Rattle.tx_tm_write.specs.Canonical.{byte_text, is_marked, is_control, is_held, items_text, opened, next_mark}
use Rattle.tx_tm_write.specs.Canonical.{with_lines, or_mark, between, with_ends, tag_text, part_text, content_text}
use Rattle.tx_tm_write.specs.Canonical.{parts_text, arguments_text, long_text, block_text, paragraphs_text, tags_text}

either : (b : Bool) (x y : List ℕ) (n : ℕ) → length x ≤ n → length y ≤ n → length (cond b x y) ≤ n
either true x y n h k = h
either false x y n h k = k

byte_short : (raw : Bool) (b : ℕ) → length (byte_text raw b) ≤ 2
byte_short raw b =
    let space = either raw (32 ∷ []) (92 ∷ 32 ∷ []) 2 (omega arith) (omega arith) in
    let control = either (is_control b) (92 ∷ (b + 64) ∷ []) (b ∷ []) 2 (omega arith) (omega arith) in
    let other = either (is_marked b) (92 ∷ b ∷ []) (cond (is_control b) (92 ∷ (b + 64) ∷ []) (b ∷ [])) 2 (omega arith)
    control in
    either (b == 32) (cond raw (32 ∷ []) (92 ∷ 32 ∷ []))
    (cond (is_marked b) (92 ∷ b ∷ []) (cond (is_control b) (92 ∷ (b + 64) ∷ []) (b ∷ []))) 2 space other

items_short : (before behind : Bool) (text : List ℕ) → length (items_text before behind text) ≤ 2 * length text
items_short before behind [] = omega arith
items_short before behind (b ∷ text) =
    let first = byte_short (before && is_held behind text) b in
    let others = items_short (not (b == 32)) behind text in
    omega (
      arith,
      first,
      others,
      length-append (byte_text (before && is_held behind text) b) (items_text (not (b == 32)) behind text),
    )

digits_short : (ts : Forest) → length (digits_of ts) ≤ total_size ts
digits_short nil = omega arith
digits_short (cons (leaf text) ts) = omega arith
digits_short (cons (node label us) ts) = omega arith

tag_short : (label : List ℕ) (ts : Forest) (long arguments : List ℕ) (n : ℕ) → IsLabel label → total_size ts ≤ n
    → length long ≤ n + 1 → length arguments ≤ n
    → length (tag_text label ts long arguments) ≤ n + 68
tag_short label ts long arguments n h d l a =
    let digits : length (60 ∷ 35 ∷ (digits_of ts ++ 62 ∷ [])) ≤ n + 68 =
    omega (arith, digits_short ts, length-append (digits_of ts) (62 ∷ [])) in
    let one : length (opened 92 label ++ long) ≤ n + 68 =
    omega (arith, h.short, length-append (opened 92 label) long) in
    let other : length (60 ∷ (label ++ (arguments ++ 62 ∷ []))) ≤ n + 68 =
    omega (arith, h.short, length-append label (arguments ++ 62 ∷ []), length-append arguments (62 ∷ [])) in
    either (is_raw label ts) (60 ∷ 35 ∷ (digits_of ts ++ 62 ∷ []))
    (cond (is_long label ts) (opened 92 label ++ long) (60 ∷ (label ++ (arguments ++ 62 ∷ [])))) (n + 68) digits
    (either (is_long label ts) (opened 92 label ++ long) (60 ∷ (label ++ (arguments ++ 62 ∷ []))) (n + 68) one other)

ends_short : (tags : List ℕ) → length (with_ends tags) ≤ length tags + 27
ends_short tags = omega (arith, length-append tags (opened 47 collection_label ++ 62 ∷ []))

mutual
  part_short : (before behind : Bool) (t : WideTree) → IsWellFormed t
      → length (part_text before behind t) + 100 ≤ 200 * size_of t
  part_short before behind (leaf text) h = omega (arith, items_short before behind text)
  part_short before behind (node label ts) h =
      omega (
        arith,
        tag_short label ts (long_text label ts) (arguments_text ts) (200 * total_size ts) h.0 (omega arith)
            (long_short label ts h.0 h.1) (arguments_short ts h.1),
      )

  content_short : (t : WideTree) → IsWellFormed t → length (content_text t) + 100 ≤ 200 * size_of t
  content_short (leaf text) h = omega (arith, items_short false false text)
  content_short (node label ts) h =
      let parts = parts_short false ts h.1 in
      let tag = tag_short label ts (long_text label ts) (arguments_text ts) (200 * total_size ts) h.0 (omega arith)
      (long_short label ts h.0 h.1) (arguments_short ts h.1) in
      let all = either (stays_inline label ts) (parts_text false ts)
      (tag_text label ts (long_text label ts) (arguments_text ts)) (200 * total_size ts + 68) (omega (arith, parts))
      tag in
      omega (arith, all)

  parts_short : (before : Bool) (ts : Forest) → AreWellFormed ts → length (parts_text before ts) ≤ 200 * total_size ts
  parts_short before nil h = omega arith
  parts_short before (cons t ts) h =
      omega (
        arith,
        part_short before (some ts) t h.0,
        parts_short true ts h.1,
        length-append (part_text before (some ts) t) (parts_text true ts),
      )

  arguments_short : (ts : Forest) → AreWellFormed ts → length (arguments_text ts) ≤ 200 * total_size ts
  arguments_short nil h = omega arith
  arguments_short (cons t ts) h =
      omega (arith, content_short t h.0, arguments_short ts h.1, length-append (content_text t) (arguments_text ts))

  long_short : (label : List ℕ) (ts : Forest) → IsLabel label → AreWellFormed ts
      → length (long_text label ts) ≤ 200 * total_size ts + 1
  long_short label nil l h = omega arith
  long_short label (cons t ts) l h =
      let block = block_short t h.0 in
      let content = content_short t h.0 in
      let lines : length (with_lines label (has_block ts) (block_text t)) ≤ 200 * size_of t =
      omega (arith, block, l.short, length-append (block_text t) (10 ∷ opened (next_mark (has_block ts)) label)) in
      let first = either (is_block t) (with_lines label (has_block ts) (block_text t)) (124 ∷ content_text t)
      (200 * size_of t) lines (omega (arith, content)) in
      omega (
        arith,
        first,
        long_short label ts l h.1,
        length-append (cond (is_block t) (with_lines label (has_block ts) (block_text t)) (124 ∷ content_text t))
            (long_text label ts),
      )

  pub block_short : (t : WideTree) → IsWellFormed t → length (block_text t) + 100 ≤ 200 * size_of t
  block_short (leaf text) h = omega arith
  block_short (node label ts) h =
      let all = either (same_bytes label document_label) (paragraphs_text ts) (with_ends (tags_text ts))
      (200 * total_size ts + 27) (omega (arith, paragraphs_short ts h.1))
      (omega (arith, ends_short (tags_text ts), tags_short ts h.1)) in
      omega (arith, all)

  paragraphs_short : (ts : Forest) → AreWellFormed ts → length (paragraphs_text ts) ≤ 200 * total_size ts
  paragraphs_short nil h = omega arith
  paragraphs_short (cons t ts) h =
      let first = either (is_empty t) (92 ∷ 59 ∷ []) (content_text t) (length (content_text t) + 2) (omega arith)
      (omega arith) in
      let gap = either (some ts) (10 ∷ 10 ∷ []) [] 2 (omega arith) (omega arith) in
      omega (
        arith,
        first,
        gap,
        content_short t h.0,
        paragraphs_short ts h.1,
        length-append (or_mark t (content_text t)) (between (some ts) ++ paragraphs_text ts),
        length-append (between (some ts)) (paragraphs_text ts),
      )

  tags_short : (ts : Forest) → AreWellFormed ts → length (tags_text ts) ≤ 200 * total_size ts
  tags_short nil h = omega arith
  tags_short (cons t ts) h =
      omega (
        arith,
        part_short false false t h.0,
        tags_short ts h.1,
        length-append (part_text false false t) (10 ∷ tags_text ts),
      )
