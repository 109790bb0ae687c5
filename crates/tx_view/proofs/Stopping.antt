-- Stops of one item, of one paragraph, of one stretch and of one unit more.
use Rattle.std.proofs.Common.{◌≡◌, ℕ, zero, suc, ◌+◌, ◌<◌, ◌≤◌, List, [], ◌∷◌, ◌++◌, length, take, drop, map}
use Rattle.std.proofs.Common.{get_or, Bool, false, ◌||◌, refl, sym, ap, ap₂, ◌∙◌, subst}
use Rattle.std.specs.Prelude.{Option, Some, None, is_some, slice_get}
use Rattle.std.specs.List.{cons_option, flat_map, All, AllByRecursion}
use Rattle.std.proofs.lemmas.List.{append_assoc, take_all, take_more, drop_all, drop_more, map_push}
use Rattle.std.proofs.lemmas.List.Sums.{fold-append}
use Rattle.std.proofs.lemmas.List.Concat.{flat_map-append}
use Rattle.std.proofs.lemmas.List.Elements.{All-from_recursion, recursion_from_All}
use Rattle.std.proofs.lemmas.Option.{slice_get_within, get_or_from_slice_get}
use Rattle.tx_tree.specs.declared.places.Place.{Place}
use Rattle.tx_origin.specs.Under.{origin_under}
use Rattle.tx_origin.specs.RelativePlaces.{BasedPlace, path_below}
use Rattle.tx_items.specs.declared.drawing.Item.{Item}
use Rattle.tx_items.specs.declared.drawing.Item.TheVariants.{Glyph, Space, Chance, Gap, Break, PageEnd, Down}
use Rattle.tx_items.specs.declared.drawing.Paragraph.{Paragraph}
use Rattle.tx_text.specs.declared.cutting.Cluster.{Cluster}
use Rattle.tx_part_items.specs.ItemsUnder.{item_under, paragraph_under}
use Rattle.tx_view_form.specs.Positions.{Mark, IsShort, mark_by, mark_of, marks_of}
use Rattle.tx_view_form.specs.Stops.{put_place, each_once, mark_place, unit_stops, stops_by}
use Rattle.tx_unit_layout.specs.Stretches.{WideStretch, stretches, stretch_paragraphs}
use Rattle.tx_unit_layout.specs.Views.{unit_view}
use Rattle.tx_unit_layout.specs.declared.shown.Shown.{Shown}
use Rattle.tx_unit_layout.proofs.Stretching.{line_short, unit_paragraphs}
use Rattle.tx_view.specs.Marks.{first_of, both_ends, stops_at, stops_on, spot_place, spot_places}
use Rattle.tx_view.specs.Units.{unit_views}
use Rattle.tx_view.proofs.UnitRows.{all_more}
use Rattle.tx_view.proofs.Finding.{AreJoined, or_else, first_append, marks_join, marks_under, marks_within}
use Rattle.tx_view.proofs.Finding.{all_marks_in, all_join, one_of_all}

-- ---- where clusters begin and end

-- a place below a part's path has the origin from the unit's tree
pub ends_at : (path b at : List ℕ) (s : BasedPlace) (m : Mark) (offset : ℕ) → s.base ≡ path ++ b → s.origin ≡ Some at
    → s.offset ≡ offset → m.origin ≡ b ++ at → spot_place s ≡ mark_place path m offset
ends_at path b at s m offset base origin off is =
    let paths : path_below s.base s.origin ≡ path ++ m.origin =
    ap₂ path_below base origin ∙ append_assoc path b at ∙ ap (λ o. path ++ o) (sym is) in
    λ i. record { path = paths i; offset = off i }

pub ends_added : (path : List ℕ) (o : Option Mark) (m : Mark) (s t : BasedPlace) (old now new : List BasedPlace)
    → o ≡ Some m → spot_place s ≡ mark_place path m m.start → spot_place t ≡ mark_place path m m.stop
    → now ≡ old ++ s ∷ [] → new ≡ now ++ t ∷ [] → spot_places new ≡ spot_places old ++ stops_at path o
ends_added path o m s t old now new is start stop so more =
    ap spot_places more ∙ map_push spot_place now t
    ∙ ap (λ ps. ps ++ spot_place t ∷ []) (ap spot_places so ∙ map_push spot_place old s)
    ∙ append_assoc (spot_places old) (spot_place s ∷ []) (spot_place t ∷ [])
    ∙ ap₂ (λ p q. spot_places old ++ p ∷ (q ∷ [])) start stop ∙ ap (λ n. spot_places old ++ stops_at path n) (sym is)

one_stops : (path : List ℕ) (o : Option Mark) → stops_at path o ≡ stops_on path (cons_option o [])
one_stops path None = refl
one_stops path (Some m) = refl

-- the stops of one element more of a list
pub stops_added : {X : Type 0} (M : List X → List Mark) → AreJoined M → (path : List ℕ) (xs : List X) (i : ℕ) (x : X)
    (ps old now new : List Place) → i < length xs → x ≡ get_or xs i x → ps ≡ stops_on path (M (x ∷ []))
    → now ≡ old ++ stops_on path (M (take i xs)) → new ≡ now ++ ps → new ≡ old ++ stops_on path (M (take (i + 1) xs))
stops_added M join path xs i x ps old now new lt is one so more =
    let all : M (take (i + 1) xs) ≡ M (take i xs) ++ M (x ∷ []) =
    ap M (take_more xs i x lt ∙ ap (λ y. take i xs ++ y ∷ []) (sym is)) ∙ join (take i xs) (x ∷ []) in
    more ∙ ap₂ (λ qs rs. qs ++ rs) so one
    ∙ append_assoc old (stops_on path (M (take i xs))) (stops_on path (M (x ∷ [])))
    ∙ ap (λ qs. old ++ qs)
    (sym (ap (stops_on path) all ∙ flat_map-append (both_ends path) (M (take i xs)) (M (x ∷ []))))

pub item_stops : (path b : List ℕ) (x : Item) → stops_at path (mark_of (item_under b x))
    ≡ stops_on path (marks_under b (x ∷ []))
item_stops path b x = one_stops path (mark_of (item_under b x))

-- the stops of one stretch more
pub stretch_added : (path : List ℕ) (ss : List WideStretch) (i : ℕ) (s : WideStretch) (old now new : List Place)
    → slice_get ss i ≡ Some s → now ≡ old ++ stops_on path (all_marks_in (take i ss))
    → new ≡ now ++ stops_on path (marks_within s.part s.paragraphs)
    → new ≡ old ++ stops_on path (all_marks_in (take (i + 1) ss))
stretch_added path ss i s old now new there so more =
    stops_added all_marks_in all_join path ss i s (stops_on path (marks_within s.part s.paragraphs)) old now new
    (slice_get_within ss i s there) (sym (get_or_from_slice_get ss i s s there))
    (ap (stops_on path) (one_of_all s)) so more

pub unit_added : (xs : List Shown) (i : ℕ) (x : Shown) (now new : List Place) → i < length xs → x ≡ get_or xs i x
    → now ≡ flat_map unit_stops (unit_views (take i xs)) → new ≡ now ++ unit_stops (unit_view x)
    → new ≡ flat_map unit_stops (unit_views (take (i + 1) xs))
unit_added xs i x now new lt is so more =
    more ∙ ap (λ ps. ps ++ unit_stops (unit_view x)) so ∙ sym (all_more unit_stops xs i x lt is)

-- the stop of one spot more is put
pub spot_put : (ss : List BasedPlace) (i : ℕ) (s : BasedPlace) (now new : List Place) → i < length ss
    → s ≡ get_or ss i s → now ≡ each_once (spot_places (take i ss)) → new ≡ put_place now (spot_place s)
    → new ≡ each_once (spot_places (take (i + 1) ss))
spot_put ss i s now new lt is so more =
    more ∙ ap (λ ps. put_place ps (spot_place s)) so
    ∙ sym (fold-append put_place [] (spot_places (take i ss)) (spot_place s ∷ []))
    ∙ ap each_once (sym (ap spot_places (take_more ss i s lt ∙ ap (λ y. take i ss ++ y ∷ []) (sym is))
    ∙ map_push spot_place (take i ss) s))

-- ---- whether there is a mark

abbrev pub have_some : List Mark → Bool
have_some ms = is_some (first_of ms)

some_or : (o p : Option Mark) → is_some (or_else o p) ≡ (is_some o || is_some p)
some_or None p = refl
some_or (Some m) p = refl

some_append : (ms ns : List Mark) → have_some (ms ++ ns) ≡ (have_some ms || have_some ns)
some_append ms ns = ap is_some (first_append ms ns) ∙ some_or (first_of ms) (first_of ns)

-- among the elements of a list from a number on
pub some_next : {X : Type 0} (M : List X → List Mark) → AreJoined M → (xs : List X) (all b : Bool) (i : ℕ) (x : X)
    → i < length xs → x ≡ get_or xs i x → b ≡ have_some (M (x ∷ [])) → all ≡ have_some (M (drop i xs))
    → all ≡ (b || have_some (M (drop (i + 1) xs)))
some_next M join xs all b i x lt is one so =
    so ∙ ap (λ ys. have_some (M ys)) (drop_more xs i x lt ∙ ap (λ y. y ∷ drop (i + 1) xs) (sym is))
    ∙ ap have_some (join (x ∷ []) (drop (i + 1) xs)) ∙ some_append (M (x ∷ [])) (M (drop (i + 1) xs))
    ∙ ap (λ c. c || have_some (M (drop (i + 1) xs))) (sym one)

pub none_left : {X : Type 0} (M : List X → List Mark) (xs : List X) (i : ℕ) → M [] ≡ [] → length xs ≤ i
    → have_some (M (drop i xs)) ≡ false
none_left M xs i none le = ap (λ ys. have_some (M ys)) (drop_all i xs le) ∙ ap have_some none

-- a path before the origins changes nothing
some_by : (b : List ℕ) (c : Cluster) (at : Option (List ℕ)) → is_some (mark_by c (origin_under b at))
    ≡ is_some (mark_by c at)
some_by b c None = refl
some_by b c (Some p) = refl

some_under : (b : List ℕ) (x : Item) → is_some (mark_of (item_under b x)) ≡ is_some (mark_of x)
some_under b (Glyph d) = some_by b d.cluster d.look.at
some_under b (Space d) = some_by b d.cluster d.look.at
some_under b (Chance d) = some_by b d.cluster d.look.at
some_under b (Gap n) = refl
some_under b Break = refl
some_under b PageEnd = refl
some_under b (Down n) = refl

some_one : (o : Option Mark) (ms : List Mark) → have_some (cons_option o ms) ≡ (is_some o || have_some ms)
some_one None ms = refl
some_one (Some m) ms = refl

some_items : (b : List ℕ) (xs : List Item) → have_some (marks_under b xs) ≡ have_some (marks_of xs)
some_items b [] = refl
some_items b (x ∷ xs) =
    some_one (mark_of (item_under b x)) (marks_under b xs)
    ∙ ap₂ (λ c d. c || d) (some_under b x) (some_items b xs) ∙ sym (some_one (mark_of x) (marks_of xs))

pub some_within : (b : List ℕ) (ps : List Paragraph)
    → have_some (marks_within b ps) ≡ have_some (marks_of (flat_map (λ p. p.items) ps))
some_within b [] = refl
some_within b (p ∷ ps) =
    ap have_some (marks_join (map (item_under b) p.items) (flat_map (λ q. q.items) (map (paragraph_under b) ps)))
    ∙ some_append (marks_under b p.items) (marks_within b ps)
    ∙ ap₂ (λ c d. c || d) (some_items b p.items) (some_within b ps)
    ∙ sym (ap have_some (marks_join p.items (flat_map (λ q. q.items) ps))
    ∙ some_append (marks_of p.items) (marks_of (flat_map (λ q. q.items) ps)))

pub some_stretch : (ss : List WideStretch) (all b : Bool) (i : ℕ) (s : WideStretch) → slice_get ss i ≡ Some s
    → b ≡ have_some (marks_of (flat_map (λ p. p.items) s.paragraphs)) → all ≡ have_some (all_marks_in (drop i ss))
    → all ≡ (b || have_some (all_marks_in (drop (i + 1) ss)))
some_stretch ss all b i s there one so =
    some_next all_marks_in all_join ss all b i s (slice_get_within ss i s there)
    (sym (get_or_from_slice_get ss i s s there))
    (one ∙ sym (some_within s.part s.paragraphs) ∙ ap have_some (one_of_all s)) so

-- ---- the unit's marks are those of its stretches

pub unit_marks : (x : Shown) → marks_of (flat_map (λ p. p.items) (unit_view x).paragraphs) ≡ all_marks_in (stretches x)
unit_marks x = ap (λ ps. marks_of (flat_map (λ p. p.items) ps)) (unit_paragraphs x)

pub all_added : (path : List ℕ) (x : Shown) (i : ℕ) (old new : List Place) → length (stretches x) ≤ i
    → new ≡ old ++ stops_on path (all_marks_in (take i (stretches x)))
    → new ≡ old ++ stops_on path (marks_of (flat_map (λ p. p.items) (unit_view x).paragraphs))
all_added path x i old new le so =
    so ∙ ap (λ ss. old ++ stops_on path (all_marks_in ss)) (take_all i (stretches x) le)
    ∙ ap (λ ms. old ++ stops_on path ms) (sym (unit_marks x))

-- ---- short places

abbrev HasShort : Paragraph → Type 0
HasShort p = All IsShort p.items

short_within : (b : List ℕ) (ps : List Paragraph) → AllByRecursion HasShort (map (paragraph_under b) ps)
    → AllByRecursion HasShort ps
short_within b [] h = tt
short_within b (p ∷ ps) h = (line_short b p.items h.0, short_within b ps h.1)

of_both : (ps qs : List Paragraph) → AllByRecursion HasShort (ps ++ qs)
    → AllByRecursion HasShort ps × AllByRecursion HasShort qs
of_both [] qs h = (tt, h)
of_both (p ∷ ps) qs h = let rest = of_both ps qs h.1 in ((h.0, rest.0), rest.1)

of_stretch : (ss : List WideStretch) (i : ℕ) (s : WideStretch)
    → AllByRecursion HasShort (flat_map stretch_paragraphs ss) → slice_get ss i ≡ Some s
    → AllByRecursion HasShort s.paragraphs
of_stretch [] i s h there = cc
of_stretch (t ∷ ss) zero s h there =
    let same : t ≡ s = cc in
    subst (λ (r : WideStretch). AllByRecursion HasShort r.paragraphs) same
    (short_within t.part t.paragraphs (of_both (stretch_paragraphs t) (flat_map stretch_paragraphs ss) h).0)
of_stretch (t ∷ ss) (suc i) s h there =
    of_stretch ss i s (of_both (stretch_paragraphs t) (flat_map stretch_paragraphs ss) h).1 there

-- if clusters of a unit have short places, so have those of its stretches
pub short_paragraphs : (x : Shown) (i : ℕ) (s : WideStretch)
    → All (λ p. All IsShort p.items) (unit_view x).paragraphs → slice_get (stretches x) i ≡ Some s
    → All (λ p. All IsShort p.items) s.paragraphs
short_paragraphs x i s h there =
    All-from_recursion HasShort s.paragraphs
    (of_stretch (stretches x) i s
    (recursion_from_All HasShort (flat_map stretch_paragraphs (stretches x))
    (subst (λ ps. All (λ p. All IsShort p.items) ps) (unit_paragraphs x) h)) there)

-- ---- the stops of a unit by its marks

pub stops_some : (path : List ℕ) (ms : List Mark) (m : Mark) → first_of ms ≡ Some m
    → stops_by path ms ≡ stops_on path ms
stops_some path [] m e = absurd cc
stops_some path (n ∷ ms) m e = refl

pub stops_none : (path : List ℕ) (ms : List Mark) → first_of ms ≡ None
    → stops_by path ms ≡ record { path = path; offset = 0 } ∷ []
stops_none path [] e = refl
stops_none path (m ∷ ms) e = absurd cc
