-- The parts of paragraphs with empty lines between them give back the block.
use Rattle.std.proofs.Common.{◌≡◌, Bool, true, false, List, [], ◌∷◌, ◌++◌, map, refl, sym, ap, ◌∙◌, append_assoc}
use Rattle.std.specs.List.{AllByRecursion}
use Rattle.std.proofs.lemmas.Bool.{and_parts}
use Rattle.tx_tree.specs.WideTree.{node, forest}
use Rattle.tx_tm_form.specs.declared.bytes.White.{White}
use Rattle.tx_tm_form.specs.declared.bytes.White.TheVariants.{Spaces, Line, Break}
use Rattle.tx_tm_form.specs.Parts.{ContentPart, gap, text, tag, content, run_before, with_runs, from_first, unless_last}
use Rattle.tx_tm_form.specs.Parts.{to_last, into_first, parts_by_paragraph, tree_of_document, block, document_label}
use Rattle.tx_tm_write.proofs.Contents.{is_tight, is_ordinary}

abbrev pub IsTight : List ContentPart → Type 0
IsTight q = is_tight false q ≡ true

-- the parts of further paragraphs, each after this white
abbrev after_white : List ContentPart → List (List ContentPart) → List ContentPart
after_white white [] = []
after_white white (q ∷ qs) = white ++ (q ++ after_white white qs)

-- as they are written: each after two bytes 10
abbrev pub behind_lines : List (List ContentPart) → List ContentPart
behind_lines = after_white (gap Line ∷ gap Line ∷ [])

-- as runs
abbrev behind_breaks : List (List ContentPart) → List ContentPart
behind_breaks = after_white (gap Break ∷ [])

-- ---- white side by side

-- a run is unchanged before parts that begin with no gap
run_stays : (w : White) (q rest : List ContentPart) → IsTight q → run_before (gap w) (q ++ rest) ≡ gap w ∷ (q ++ rest)
run_stays w [] rest h = absurd cc
run_stays w (gap Spaces ∷ q) rest h = absurd cc
run_stays w (gap Line ∷ q) rest h = absurd cc
run_stays w (gap Break ∷ q) rest h = absurd cc
run_stays w (text x ∷ q) rest h = refl
run_stays w (tag c t ∷ q) rest h = refl

tight_runs : (q : List ContentPart) (held : Bool) (rest : List ContentPart) → is_tight held q ≡ true
    → with_runs (q ++ rest) ≡ q ++ with_runs rest
tight_runs [] held rest h = refl
tight_runs (gap Spaces ∷ q) held rest h =
    let p = and_parts held (is_tight false q) h in ap (run_before (gap Spaces)) (tight_runs q false rest p.1)
    ∙ run_stays Spaces q (with_runs rest) p.1
tight_runs (gap Line ∷ q) held rest h = absurd cc
tight_runs (gap Break ∷ q) held rest h = absurd cc
tight_runs (text x ∷ q) held rest h = ap (λ z. text x ∷ z) (tight_runs q true rest h)
tight_runs (tag c t ∷ q) held rest h = ap (λ z. tag c t ∷ z) (tight_runs q true rest h)

paragraph_runs : (q : List ContentPart) (qs : List (List ContentPart)) (rest : List ContentPart) → IsTight q
    → with_runs (behind_lines qs ++ rest) ≡ behind_breaks qs ++ with_runs rest
    → with_runs ((q ++ behind_lines qs) ++ rest) ≡ (q ++ behind_breaks qs) ++ with_runs rest
paragraph_runs q qs rest h e =
    ap with_runs (append_assoc q (behind_lines qs) rest) ∙ tight_runs q false (behind_lines qs ++ rest) h
    ∙ ap (λ z. q ++ z) e ∙ sym (append_assoc q (behind_breaks qs) (with_runs rest))

two_lines : (q : List ContentPart) (rest : List ContentPart) → IsTight q
    → run_before (gap Line) (run_before (gap Line) (q ++ rest)) ≡ gap Break ∷ (q ++ rest)
two_lines q rest h = ap (run_before (gap Line)) (run_stays Line q rest h)

lines_runs : (qs : List (List ContentPart)) (rest : List ContentPart) → AllByRecursion IsTight qs
    → with_runs (behind_lines qs ++ rest) ≡ behind_breaks qs ++ with_runs rest
lines_runs [] rest h = refl
lines_runs (q ∷ qs) rest h =
    ap (λ z. run_before (gap Line) (run_before (gap Line) z)) (paragraph_runs q qs rest h.0 (lines_runs qs rest h.1))
    ∙ ap (λ z. run_before (gap Line) (run_before (gap Line) z)) (append_assoc q (behind_breaks qs) (with_runs rest))
    ∙ two_lines q (behind_breaks qs ++ with_runs rest) h.0
    ∙ ap (λ z. gap Break ∷ z) (sym (append_assoc q (behind_breaks qs) (with_runs rest)))

-- ---- white at the edges

first_stays : (q rest : List ContentPart) → IsTight q → from_first (q ++ rest) ≡ q ++ rest
first_stays [] rest h = absurd cc
first_stays (gap Spaces ∷ q) rest h = absurd cc
first_stays (gap Line ∷ q) rest h = absurd cc
first_stays (gap Break ∷ q) rest h = absurd cc
first_stays (text x ∷ q) rest h = refl
first_stays (tag c t ∷ q) rest h = refl

-- a run is unchanged before parts that are not all white
unless_stays : (w : White) (q rest : List ContentPart) → IsTight q
    → unless_last (gap w) (q ++ rest) ≡ gap w ∷ (q ++ rest)
unless_stays w [] rest h = absurd cc
unless_stays w (p ∷ q) rest h = refl

tight_last : (q : List ContentPart) (held : Bool) (rest : List ContentPart) → is_tight held q ≡ true
    → to_last (q ++ rest) ≡ q ++ to_last rest
tight_last [] held rest h = refl
tight_last (gap Spaces ∷ q) held rest h =
    let p = and_parts held (is_tight false q) h in ap (unless_last (gap Spaces)) (tight_last q false rest p.1)
    ∙ unless_stays Spaces q (to_last rest) p.1
tight_last (gap Line ∷ q) held rest h = absurd cc
tight_last (gap Break ∷ q) held rest h = absurd cc
tight_last (text x ∷ q) held rest h = ap (λ z. text x ∷ z) (tight_last q true rest h)
tight_last (tag c t ∷ q) held rest h = ap (λ z. tag c t ∷ z) (tight_last q true rest h)

paragraph_last : (q : List ContentPart) (qs : List (List ContentPart)) (rest : List ContentPart) → IsTight q
    → to_last (behind_breaks qs ++ rest) ≡ behind_breaks qs
    → to_last ((q ++ behind_breaks qs) ++ rest) ≡ q ++ behind_breaks qs
paragraph_last q qs rest h e = ap to_last (append_assoc q (behind_breaks qs) rest)
    ∙ tight_last q false (behind_breaks qs ++ rest) h ∙ ap (λ z. q ++ z) e

breaks_last : (qs : List (List ContentPart)) (rest : List ContentPart) → AllByRecursion IsTight qs → to_last rest ≡ []
    → to_last (behind_breaks qs ++ rest) ≡ behind_breaks qs
breaks_last [] rest h e = e
breaks_last (q ∷ qs) rest h e =
    ap (unless_last (gap Break)) (paragraph_last q qs rest h.0 (breaks_last qs rest h.1 e))
    ∙ unless_stays Break q (behind_breaks qs) h.0

-- ---- paragraphs

-- with a first paragraph, which may be empty
abbrev begun : List (List ContentPart) → List (List ContentPart)
begun [] = [] ∷ []
begun (q ∷ qs) = q ∷ qs

into_begun : (p : ContentPart) (q : List ContentPart) (qs xs : List (List ContentPart)) → begun xs ≡ q ∷ qs
    → into_first p xs ≡ (p ∷ q) ∷ qs
into_begun p q qs [] e = let a : [] ≡ q = cc in let b : [] ≡ qs = cc in cc
into_begun p q qs (x ∷ xs) e = let a : x ≡ q = cc in let b : xs ≡ qs = cc in cc

tight_paragraph : (q : List ContentPart) (held : Bool) (rest : List ContentPart) (qs : List (List ContentPart))
    → is_tight held q ≡ true
    → begun (parts_by_paragraph rest) ≡ [] ∷ qs → begun (parts_by_paragraph (q ++ rest)) ≡ q ∷ qs
tight_paragraph [] held rest qs h e = e
tight_paragraph (gap Spaces ∷ q) held rest qs h e =
    let p = and_parts held (is_tight false q) h in
    ap begun (into_begun (gap Spaces) q qs (parts_by_paragraph (q ++ rest)) (tight_paragraph q false rest qs p.1 e))
tight_paragraph (gap Line ∷ q) held rest qs h e = absurd cc
tight_paragraph (gap Break ∷ q) held rest qs h e = absurd cc
tight_paragraph (text x ∷ q) held rest qs h e =
    ap begun (into_begun (text x) q qs (parts_by_paragraph (q ++ rest)) (tight_paragraph q true rest qs h e))
tight_paragraph (tag c t ∷ q) held rest qs h e =
    ap begun (into_begun (tag c t) q qs (parts_by_paragraph (q ++ rest)) (tight_paragraph q true rest qs h e))

begun_some : (q : List ContentPart) (qs xs : List (List ContentPart)) → IsTight q → begun xs ≡ q ∷ qs → xs ≡ q ∷ qs
begun_some [] qs xs h e = absurd cc
begun_some (p ∷ q) qs [] h e = absurd cc
begun_some (p ∷ q) qs (x ∷ xs) h e = e

breaks_paragraphs : (qs : List (List ContentPart)) → AllByRecursion IsTight qs
    → begun (parts_by_paragraph (behind_breaks qs)) ≡ [] ∷ qs
breaks_paragraphs [] h = refl
breaks_paragraphs (q ∷ qs) h =
    ap (λ z. [] ∷ z)
    (begun_some q qs (parts_by_paragraph (q ++ behind_breaks qs)) h.0
    (tight_paragraph q false (behind_breaks qs) qs h.0 (breaks_paragraphs qs h.1)))

all_paragraphs : (q : List ContentPart) (qs : List (List ContentPart)) → IsTight q → AllByRecursion IsTight qs
    → parts_by_paragraph (q ++ behind_breaks qs) ≡ q ∷ qs
all_paragraphs q qs h k =
    begun_some q qs (parts_by_paragraph (q ++ behind_breaks qs)) h
    (tight_paragraph q false (behind_breaks qs) qs h (breaks_paragraphs qs k))

-- ---- blocks

whole_runs : (q : List ContentPart) (qs : List (List ContentPart)) (rest : List ContentPart) → IsTight q
    → AllByRecursion IsTight qs
    → with_runs ((q ++ behind_lines qs) ++ rest) ≡ (q ++ behind_breaks qs) ++ with_runs rest
whole_runs q qs rest h k = paragraph_runs q qs rest h (lines_runs qs rest k)

-- what is left without the white after it
left : (q : List ContentPart) (qs : List (List ContentPart)) (rest : List ContentPart) → IsTight q
    → AllByRecursion IsTight qs
    → to_last rest ≡ [] → tree_of_document (parts_by_paragraph (to_last ((q ++ behind_breaks qs) ++ rest)))
    ≡ tree_of_document (q ∷ qs)
left q qs rest h k e = ap (λ z. tree_of_document (parts_by_paragraph z))
    (paragraph_last q qs rest h (breaks_last qs rest k e))
    ∙ ap tree_of_document (all_paragraphs q qs h k)

-- white after the paragraphs
pub block_behind : (q : List ContentPart) (qs : List (List ContentPart)) (rest : List ContentPart) → IsTight q
    → AllByRecursion IsTight qs
    → to_last (with_runs rest) ≡ []
    → block ((q ++ behind_lines qs) ++ rest) ≡ tree_of_document (q ∷ qs)
unfolding block
block_behind q qs rest h k e =
    ap (λ z. tree_of_document (parts_by_paragraph (to_last (from_first z))))
    (whole_runs q qs rest h k ∙ append_assoc q (behind_breaks qs) (with_runs rest))
    ∙ ap (λ z. tree_of_document (parts_by_paragraph (to_last z))) (first_stays q (behind_breaks qs ++ with_runs rest) h
    ∙ sym (append_assoc q (behind_breaks qs) (with_runs rest)))
    ∙ left q qs (with_runs rest) h k e

-- white after the paragraphs, and a run before them
pub block_between : (w : White) (q : List ContentPart) (qs : List (List ContentPart)) (rest : List ContentPart)
    → IsTight q
    → AllByRecursion IsTight qs → to_last (with_runs rest) ≡ []
    → block (gap w ∷ ((q ++ behind_lines qs) ++ rest)) ≡ tree_of_document (q ∷ qs)
unfolding block
block_between w q qs rest h k e =
    ap (λ z. tree_of_document (parts_by_paragraph (to_last (from_first (run_before (gap w) z)))))
    (whole_runs q qs rest h k ∙ append_assoc q (behind_breaks qs) (with_runs rest))
    ∙ ap (λ z. tree_of_document (parts_by_paragraph (to_last (from_first z))))
    (run_stays w q (behind_breaks qs ++ with_runs rest) h)
    ∙ ap (λ z. tree_of_document (parts_by_paragraph (to_last z)))
    (sym (append_assoc q (behind_breaks qs) (with_runs rest)))
    ∙ left q qs (with_runs rest) h k e

-- paragraphs of which the first is no collection tag
pub ordinary_document : (q : List ContentPart) (qs : List (List ContentPart)) → is_ordinary q ≡ true
    → tree_of_document (q ∷ qs) ≡ node document_label (forest (map content (q ∷ qs)))
ordinary_document [] [] h = refl
ordinary_document [] (r ∷ qs) h = refl
ordinary_document (gap w ∷ q) [] h = refl
ordinary_document (gap w ∷ q) (r ∷ qs) h = refl
ordinary_document (text x ∷ q) [] h = refl
ordinary_document (text x ∷ q) (r ∷ qs) h = refl
ordinary_document (tag true t ∷ q) qs h = absurd cc
ordinary_document (tag false t ∷ q) [] h = refl
ordinary_document (tag false t ∷ q) (r ∷ qs) h = refl
