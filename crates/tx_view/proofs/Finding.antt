-- The first and the last mark of items, of lines and of stretches.
use Rattle.std.proofs.Common.{◌≡◌, ℕ, ◌+◌, ◌-◌, ◌<◌, ◌≤◌, List, [], ◌∷◌, ◌++◌, length, take, drop, map, get_or, refl}
use Rattle.std.proofs.Common.{sym, ap, ◌∙◌, arith}
use Rattle.std.specs.Prelude.{Option, Some, None, option_and_then, slice_get}
use Rattle.std.specs.List.{cons_option, flat_map}
use Rattle.std.proofs.lemmas.List.{append-nil, take_more, drop_more, map-append}
use Rattle.std.proofs.lemmas.List.Elements.{filter_map-append}
use Rattle.std.proofs.lemmas.List.Concat.{flat_map-append}
use Rattle.std.proofs.lemmas.Option.{slice_get_within, get_or_from_slice_get}
use Rattle.tx_tree.specs.declared.TheConstants.{MOST_TEXT}
use Rattle.tx_items.specs.declared.drawing.Drawn.{Drawn}
use Rattle.tx_items.specs.declared.drawing.Item.{Item}
use Rattle.tx_items.specs.declared.drawing.Paragraph.{Paragraph}
use Rattle.tx_layout.specs.declared.layout.Line.{Line}
use Rattle.tx_part_items.specs.ItemsUnder.{item_under, paragraph_under}
use Rattle.tx_part_layout.specs.LinesUnder.{line_under}
use Rattle.tx_unit_layout.specs.Stretches.{WideStretch, stretch_lines, stretch_paragraphs}
use Rattle.tx_view_form.specs.Cells.{drawn_in}
use Rattle.tx_view_form.specs.Positions.{Mark, IsShort, mark_by, mark_of, marks_of, items_on}
use Rattle.tx_view.specs.Marks.{first_of, last_or, last_of}

-- the first of two
abbrev pub or_else : Option Mark → Option Mark → Option Mark
or_else (Some m) other = Some m
or_else None other = other

pub first_append : (ms ns : List Mark) → first_of (ms ++ ns) ≡ or_else (first_of ms) (first_of ns)
first_append [] ns = refl
first_append (m ∷ ms) ns = refl

last_append : (o : Option Mark) (ms ns : List Mark) → last_or o (ms ++ ns) ≡ last_or (last_or o ms) ns
last_append o [] ns = refl
last_append o (m ∷ ms) ns = last_append (Some m) ms ns

kept : (p : Option Mark) (m : Mark) (o : Option Mark) → or_else (or_else p (Some m)) o ≡ or_else p (Some m)
kept None m o = refl
kept (Some n) m o = refl

last_from : (o : Option Mark) (ms : List Mark) → last_or o ms ≡ or_else (last_of ms) o
last_from o [] = refl
last_from o (m ∷ ms) =
    last_from (Some m) ms ∙ sym (kept (last_of ms) m o) ∙ ap (λ p. or_else p o) (sym (last_from (Some m) ms))

pub last_two : (ms ns : List Mark) → last_of (ms ++ ns) ≡ or_else (last_of ns) (last_of ms)
last_two ms ns = last_append None ms ns ∙ last_from (last_of ms) ns

-- ---- marks of lists

-- the marks of items, of lines and of paragraphs under a path, and those of stretches
abbrev pub marks_under : List ℕ → List Item → List Mark
marks_under b xs = marks_of (map (item_under b) xs)

abbrev pub marks_on : List ℕ → List Line → List Mark
marks_on b ls = marks_of (items_on (map (line_under b) ls))

abbrev pub marks_within : List ℕ → List Paragraph → List Mark
marks_within b ps = marks_of (flat_map (λ p. p.items) (map (paragraph_under b) ps))

abbrev pub marks_in : List WideStretch → List Mark
marks_in ss = marks_of (items_on (flat_map stretch_lines ss))

-- the marks of the paragraphs, including those without a line
abbrev pub all_marks_in : List WideStretch → List Mark
all_marks_in ss = marks_of (flat_map (λ p. p.items) (flat_map stretch_paragraphs ss))

-- the marks of two lists are those of the first and then of the second
abbrev pub AreJoined : {X : Type 0} → (List X → List Mark) → Type 0
AreJoined {X} M = (xs ys : List X) → M (xs ++ ys) ≡ M xs ++ M ys

pub marks_join : AreJoined marks_of
marks_join xs ys = filter_map-append mark_of xs ys

pub items_join : (b : List ℕ) → AreJoined (marks_under b)
items_join b xs ys =
    ap marks_of (map-append (item_under b) xs ys) ∙ marks_join (map (item_under b) xs) (map (item_under b) ys)

pub lines_join : AreJoined {X = Line} (λ ls. marks_of (items_on ls))
lines_join ks ls =
    ap marks_of (flat_map-append (λ line. line.items) ks ls) ∙ marks_join (items_on ks) (items_on ls)

pub on_join : (b : List ℕ) → AreJoined (marks_on b)
on_join b ks ls =
    ap (λ ms. marks_of (items_on ms)) (map-append (line_under b) ks ls)
    ∙ lines_join (map (line_under b) ks) (map (line_under b) ls)

paragraphs_join : AreJoined {X = Paragraph} (λ ps. marks_of (flat_map (λ p. p.items) ps))
paragraphs_join ps qs =
    ap marks_of (flat_map-append (λ p. p.items) ps qs)
    ∙ marks_join (flat_map (λ p. p.items) ps) (flat_map (λ p. p.items) qs)

pub within_join : (b : List ℕ) → AreJoined (marks_within b)
within_join b ps qs =
    ap (λ rs. marks_of (flat_map (λ p. p.items) rs)) (map-append (paragraph_under b) ps qs)
    ∙ paragraphs_join (map (paragraph_under b) ps) (map (paragraph_under b) qs)

pub in_join : AreJoined marks_in
in_join ss ts =
    ap (λ ls. marks_of (items_on ls)) (flat_map-append stretch_lines ss ts)
    ∙ lines_join (flat_map stretch_lines ss) (flat_map stretch_lines ts)

pub all_join : AreJoined all_marks_in
all_join ss ts =
    ap (λ ps. marks_of (flat_map (λ p. p.items) ps)) (flat_map-append stretch_paragraphs ss ts)
    ∙ paragraphs_join (flat_map stretch_paragraphs ss) (flat_map stretch_paragraphs ts)

-- the marks of one line
pub one_line : (b : List ℕ) (l : Line) (xs : List Item) → xs ≡ l.items → marks_under b xs ≡ marks_on b (l ∷ [])
one_line b l xs e = ap (marks_under b) e ∙ ap marks_of (sym (append-nil (map (item_under b) l.items)))

pub one_paragraph : (b : List ℕ) (p : Paragraph) (xs : List Item) → xs ≡ p.items
    → marks_under b xs ≡ marks_within b (p ∷ [])
one_paragraph b p xs e = ap (marks_under b) e ∙ ap marks_of (sym (append-nil (map (item_under b) p.items)))

pub one_stretch : (s : WideStretch) → marks_on s.part s.lines ≡ marks_in (s ∷ [])
one_stretch s = ap (λ ls. marks_of (items_on ls)) (sym (append-nil (stretch_lines s)))

pub one_of_all : (s : WideStretch) → marks_within s.part s.paragraphs ≡ all_marks_in (s ∷ [])
one_of_all s = ap (λ ps. marks_of (flat_map (λ p. p.items) ps)) (sym (append-nil (stretch_paragraphs s)))

first_one : (o : Option Mark) → o ≡ first_of (cons_option o [])
first_one None = refl
first_one (Some m) = refl

last_one : (o : Option Mark) → o ≡ last_of (cons_option o [])
last_one None = refl
last_one (Some m) = refl

pub first_item : (b : List ℕ) (x : Item) → mark_of (item_under b x) ≡ first_of (marks_under b (x ∷ []))
first_item b x = first_one (mark_of (item_under b x))

pub last_item : (b : List ℕ) (x : Item) → mark_of (item_under b x) ≡ last_of (marks_under b (x ∷ []))
last_item b x = last_one (mark_of (item_under b x))

-- ---- what the walks find

-- the first of a list, or else the first after it
pub first_at : {X : Type 0} (M : List X → List Mark) → AreJoined M → (xs : List X) (i : ℕ) (x : X) (o : Option Mark)
    → i < length xs → x ≡ get_or xs i x → o ≡ first_of (M (x ∷ []))
    → first_of (M (drop i xs)) ≡ or_else o (first_of (M (drop (i + 1) xs)))
first_at M join xs i x o lt is found =
    ap (λ ys. first_of (M ys)) (drop_more xs i x lt ∙ ap (λ y. y ∷ drop (i + 1) xs) (sym is))
    ∙ ap first_of (join (x ∷ []) (drop (i + 1) xs))
    ∙ first_append (M (x ∷ [])) (M (drop (i + 1) xs))
    ∙ ap (λ p. or_else p (first_of (M (drop (i + 1) xs)))) (sym found)

pub first_step : {X : Type 0} (M : List X → List Mark) → AreJoined M → (xs : List X) (all : Option Mark) (i : ℕ) (x : X)
    (o : Option Mark) → i < length xs → x ≡ get_or xs i x → o ≡ first_of (M (x ∷ [])) → all ≡ first_of (M (drop i xs))
    → all ≡ or_else o (first_of (M (drop (i + 1) xs)))
first_step M join xs all i x o lt is found so = so ∙ first_at M join xs i x o lt is found

pub last_step : {X : Type 0} (M : List X → List Mark) → AreJoined M → (xs : List X) (all : Option Mark) (e : ℕ) (x : X)
    (o : Option Mark) → 0 < e → e ≤ length xs → x ≡ get_or xs (e - 1) x → o ≡ last_of (M (x ∷ []))
    → all ≡ last_of (M (take e xs)) → all ≡ or_else o (last_of (M (take (e - 1) xs)))
last_step M join xs all e x o pos le is found so =
    let same : e ≡ e - 1 + 1 = omega arith in
    so ∙ ap (λ k. last_of (M (take k xs))) same
    ∙ ap (λ ys. last_of (M ys)) (take_more xs (e - 1) x (omega arith) ∙ ap (λ y. take (e - 1) xs ++ y ∷ []) (sym is))
    ∙ ap last_of (join (take (e - 1) xs) (x ∷ [])) ∙ last_two (M (take (e - 1) xs)) (M (x ∷ []))
    ∙ ap (λ p. or_else p (last_of (M (take (e - 1) xs)))) (sym found)

-- ---- two lists of items

pub first_marks : (xs ys : List Item) → first_of (marks_of (xs ++ ys)) ≡ or_else (first_of (marks_of xs))
    (first_of (marks_of ys))
first_marks xs ys = ap first_of (marks_join xs ys) ∙ first_append (marks_of xs) (marks_of ys)

pub last_marks : (xs ys : List Item)
    → last_of (marks_of (xs ++ ys)) ≡ or_else (last_of (marks_of ys)) (last_of (marks_of xs))
last_marks xs ys = ap last_of (marks_join xs ys) ∙ last_two (marks_of xs) (marks_of ys)

-- ---- an offset fits

pub short_sum : (item : Item) (d : Drawn) (o : List ℕ) → IsShort item → drawn_in item ≡ Some d → d.look.at ≡ Some o
    → d.cluster.start + d.cluster.len ≤ MOST_TEXT
short_sum item d o h e f =
    h (record { origin = o; start = d.cluster.start; stop = d.cluster.start + d.cluster.len })
    (ap (λ q. option_and_then (λ d. mark_by d.cluster d.look.at) q) e ∙ ap (λ q. mark_by d.cluster q) f)

-- ---- stretches, each by its number

pub first_stretch : (ss : List WideStretch) (all : Option Mark) (i : ℕ) (s : WideStretch) (o : Option Mark)
    → slice_get ss i ≡ Some s → o ≡ first_of (marks_on s.part s.lines) → all ≡ first_of (marks_in (drop i ss))
    → all ≡ or_else o (first_of (marks_in (drop (i + 1) ss)))
first_stretch ss all i s o there found so =
    first_step marks_in in_join ss all i s o (slice_get_within ss i s there)
    (sym (get_or_from_slice_get ss i s s there)) (found ∙ ap first_of (one_stretch s)) so

pub last_stretch : (ss : List WideStretch) (all : Option Mark) (e : ℕ) (s : WideStretch) (o : Option Mark) → 0 < e
    → slice_get ss (e - 1) ≡ Some s → o ≡ last_of (marks_on s.part s.lines) → all ≡ last_of (marks_in (take e ss))
    → all ≡ or_else o (last_of (marks_in (take (e - 1) ss)))
last_stretch ss all e s o pos there found so =
    last_step marks_in in_join ss all e s o pos (omega (arith, slice_get_within ss (e - 1) s there))
    (sym (get_or_from_slice_get ss (e - 1) s s there)) (found ∙ ap last_of (one_stretch s)) so
