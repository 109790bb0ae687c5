-- What a tree shows is what its parts show, in order.
use Rattle.std.proofs.Common.{◌≡◌, ℕ, zero, suc, ◌+◌, ◌*◌, ◌-◌, List, [], ◌∷◌, ◌++◌, map, length}
use Rattle.std.proofs.Common.{refl, ap, sym, ◌∙◌, subst}
use Rattle.std.proofs.lemmas.List.{append-nil, append_assoc, map-append}
use Rattle.std.proofs.lemmas.List.Concat.{flat_map-append}
use Rattle.std.proofs.lemmas.List.Elements.{filter_map-append}
use Rattle.std.specs.Prelude.{Bool, true, false, nat_le, if◌then◌else◌, Option, Some, None, codes}
use Rattle.std.specs.List.{flat_map}
use Rattle.std.specs.Option.{option_map, option_map_or}
use Rattle.tx_tree.specs.WideTree.{WideTree}
use Rattle.tx_origin.specs.Values.{WideValue, none, vals}
use Rattle.tx_origin.specs.Under.{value_under, values_under}
use Rattle.tx_origin.proofs.Under.{under_nested, under_none}
use Rattle.tx_exec_form.specs.Runs.{Before}
use Rattle.tx_exec_form.specs.Evaluated.{WideTrace}
use Rattle.tx_parts.specs.Atop.{env_atop}
use Rattle.tx_parts.specs.Openness.{Settings, Openness, Document, With, Shut, openness}
use Rattle.tx_parts.specs.Composed.{evaluates, SoFar, nothing_yet, with_child, children_from, document_trace}
use Rattle.tx_parts.specs.Composed.{set_by, settings_cost, setting_values, with_trace, composed_as}
use Rattle.tx_parts.specs.Parts.{Part, stored_part, parts, parts_from, parts_as, parts_by}
use Rattle.tx_parts.proofs.Settings.{none_low}
use Rattle.tx_parts.proofs.Composing.{inner_are}
use Rattle.tx_parts.proofs.Children.{FirstDone, first_done}
use Rattle.tx_items.specs.declared.attributes.Attrs.{Attrs}
use Rattle.tx_items.specs.Attributes.{with_named, attribute_named}
use Rattle.tx_items.specs.Rules.{rule_of}
use Rattle.tx_items.specs.Shows.{Form, inline, listed, Shown, AllShown, one_by_one, giving_back, document_shown}
use Rattle.tx_items.specs.Shows.{with_shown, show, show_all, show_with, or_one, unit_paragraphs, shown_paragraphs}
use Rattle.tx_part_items.specs.ItemsUnder.{shown_under}
use Rattle.tx_part_items.specs.ShownParts.{PartValue, kept_values, paragraphs_in_tree, part_errors}
use Rattle.tx_part_items.specs.ShownParts.{PartsShown, settings_set, settings_given_back, shut_shown}
use Rattle.tx_part_items.specs.ShownParts.{children_shown, shown_as}
use Rattle.tx_part_items.specs.ShownParts.{parts_shown, tree_shown, paragraphs_by_parts, errors_by_parts, own_value}
use Rattle.tx_part_items.proofs.Deeper.{show_deeper, placed_paragraphs}

-- the values of parts
abbrev values_of : List Part → List PartValue
values_of ps = kept_values (map stored_part ps)

both_values : (ps qs : List Part) → values_of (ps ++ qs) ≡ values_of ps ++ values_of qs
both_values ps qs = ap kept_values (map-append stored_part ps qs)
    ∙ filter_map-append _ (map stored_part ps) (map stored_part qs)

-- The parts with these values show what a tree shows, and the other values are left. At the end of a paragraph
-- attributes are given back.
record ShowAs (back : Attrs → Attrs) (s : Shown) (vs rest : List PartValue) (r : PartsShown) : Type 0 where
  pub each : map own_value r.each ≡ vs
  pub after : r.after ≡ s.after
  pub left : r.left ≡ rest
  pub paragraphs : flat_map paragraphs_in_tree r.each ≡ one_by_one ((s.form, back s.after) ∷ [])
  pub errors : flat_map part_errors r.each ≡ s.errors

-- The parts with these values show what several trees show, each a paragraph of its own.
record ShowEach (all : AllShown) (vs rest : List PartValue) (r : PartsShown) : Type 0 where
  pub each : map own_value r.each ≡ vs
  pub after : r.after ≡ all.after
  pub left : r.left ≡ rest
  pub paragraphs : flat_map paragraphs_in_tree r.each ≡ one_by_one all.each
  pub errors : flat_map part_errors r.each ≡ all.errors

-- ---- a part

one_part : (path : List ℕ) (v : WideValue) (back : Attrs → Attrs) (a : Attrs) (rest : List PartValue) (t : WideTree) →
    ShowAs back (show a (value_under path v)) (record { path = path; value = v } ∷ []) rest
    (shut_shown back a (record { path = path; value = v } ∷ rest) t)
one_part path v back a rest t =
    let same : shown_under path (show a v) ≡ show a (value_under path v) = sym (show_deeper path a v) in
    record {
      each = refl;
      after = ap (λ s. s.after) same;
      left = refl;
      paragraphs =
          append-nil _
          ∙ placed_paragraphs (record { path = path; value = v; before = a; end = back (show a v).after })
          ∙ ap (λ s. one_by_one (((show a (value_under path v)).form, back s.after) ∷ [])) same;
      errors = append-nil _ ∙ ap (λ s. s.errors) same;
    }

shut_part : (path : List ℕ) (o : Option WideTrace) (trace : WideTrace) (back : Attrs → Attrs) (a : Attrs)
    (rest : List PartValue) (t : WideTree) → o ≡ Some trace →
    ShowAs back (show a (value_under path trace.value)) (kept_values (record { path = path; trace = o } ∷ [])) rest
    (shut_shown back a (kept_values (record { path = path; trace = o } ∷ []) ++ rest) t)
shut_part path o trace back a rest t h =
    subst (λ p.
    ShowAs back (show a (value_under path trace.value)) (kept_values (record { path = path; trace = p } ∷ [])) rest
    (shut_shown back a (kept_values (record { path = path; trace = p } ∷ []) ++ rest) t)) (sym h)
    (one_part path trace.value back a rest t)

-- ---- `with`

-- the last value after settings
behind_settings : (path : List ℕ) (i : ℕ) (ps : Settings) (w : WideValue) (before a : Attrs) →
    show_with before a (values_under path (vals (setting_values i ps ++ w ∷ []))) ≡
    Some (record (show (settings_set ps a) (value_under path w)) {
      after = settings_given_back ps before (show (settings_set ps a) (value_under path w)).after;
    })
unfolding show
behind_settings path i [] w before a = refl
behind_settings path i (p ∷ ps) w before a =
    ap (giving_back (Some p.0) before)
    (behind_settings path (i + 2) ps w before (with_named (attribute_named p.0) (Some p.1) a))

with_shows : (path : List ℕ) (ps : Settings) (trace : WideTrace) (a : Attrs) →
    record (show (settings_set ps a) (value_under (path ++ (2 * length ps) ∷ []) trace.value)) {
      after = settings_given_back ps a
          (show (settings_set ps a) (value_under (path ++ (2 * length ps) ∷ []) trace.value)).after;
    } ≡ show a (value_under path (with_trace ps trace).value)
unfolding show rule_of
with_shows path ps trace a =
    ap (λ v.
    record (show (settings_set ps a) v) { after = settings_given_back ps a (show (settings_set ps a) v).after })
    (under_nested path ((2 * length ps) ∷ []) trace.value)
    ∙ ap (with_shown a (codes "with")) (sym (behind_settings path 0 ps
    (value_under ((2 * length ps) ∷ []) trace.value) a a))

-- what settings set is given back after the inner tree, and at the end of its paragraph where it is in a line
settings_back : (ps : Settings) (back : Attrs → Attrs) (a : Attrs) (s : Shown) (vs rest : List PartValue)
    (r : PartsShown) → ShowAs (λ c. back (settings_given_back ps a c)) s vs rest r →
    ShowAs back (record s { after = settings_given_back ps a s.after }) vs rest
    (record r { after = settings_given_back ps a r.after })
settings_back ps back a s vs rest r h =
    record {
      each = h.each;
      after = ap (settings_given_back ps a) h.after;
      left = h.left;
      paragraphs = h.paragraphs;
      errors = h.errors;
    }

-- ---- `document`

show_nothing : (a : Attrs) (rest : List PartValue) →
    ShowEach (show_all false a none) [] rest (record { each = []; after = a; left = rest })
unfolding show
show_nothing a rest =
    record { each = refl; after = refl; left = refl; paragraphs = refl; errors = refl }

first_form : (f : Form × Attrs) (fs : List (Form × Attrs)) →
    one_by_one (f ∷ []) ++ one_by_one fs ≡ one_by_one (f ∷ fs)
first_form (inline r, a) fs = refl
first_form (listed ps, a) fs = ap (λ qs. qs ++ one_by_one fs) (append-nil ps)

-- the parts of one tree, and those of the others after it
abbrev joined_parts : PartsShown → PartsShown → PartsShown
joined_parts r q = record { each = r.each ++ q.each; after = q.after; left = q.left }

abbrev first_and : Shown → AllShown → AllShown
first_and s all = record { each = (s.form, s.after) ∷ all.each; after = all.after; errors = s.errors ++ all.errors }

both_show : (s : Shown) (all : AllShown) (us vs rest : List PartValue) (r q : PartsShown) →
    ShowAs (λ b. b) s us (vs ++ rest) r → ShowEach all vs rest q →
    ShowEach (first_and s all) (us ++ vs) rest (joined_parts r q)
both_show s all us vs rest r q h g =
    record {
      each =
          map-append own_value r.each q.each ∙ ap (λ ps. ps ++ map own_value q.each) h.each
          ∙ ap (λ ps. us ++ ps) g.each;
      after = g.after;
      left = g.left;
      paragraphs =
          flat_map-append paragraphs_in_tree r.each q.each
          ∙ ap (λ ps. ps ++ flat_map paragraphs_in_tree q.each) h.paragraphs
          ∙ ap (λ ps. one_by_one ((s.form, s.after) ∷ []) ++ ps) g.paragraphs
          ∙ first_form (s.form, s.after) all.each;
      errors =
          flat_map-append part_errors r.each q.each ∙ ap (λ es. es ++ flat_map part_errors q.each) h.errors
          ∙ ap (λ es. s.errors ++ es) g.errors;
    }

-- what trees with k levels show
abbrev AllShow : ℕ → Type 0
AllShow k = (c : ℕ) (path : List ℕ) (t : WideTree) (e : Before) (trace : WideTrace) (back : Attrs → Attrs) (a : Attrs)
    (rest : List PartValue) → evaluates k c t e ≡ Some trace →
    ShowAs back (show a (value_under path trace.value)) (values_of (parts k c path t e)) rest
    (parts_shown k back a (values_of (parts k c path t e) ++ rest) t)

-- what children show whose values come after those so far, with these parts
record ChildrenShow (k : ℕ) (path : List ℕ) (sofar b : SoFar) (ts : List WideTree) (vs : List PartValue) : Type 0 where
  pub values : List WideValue
  pub are : b.values ≡ sofar.values ++ values
  pub show : (a : Attrs) (rest : List PartValue) → ShowEach (show_all false a (values_under path (vals values))) vs rest
      (children_shown (parts_shown k) a (vs ++ rest) ts)

module _ (k : ℕ) (all : AllShow k) (c : ℕ) (path : List ℕ) (e : Before) where
  -- the parts of the others after a first child with this trace
  abbrev others_parts : ℕ → SoFar → List WideTree → Option WideTrace → List Part
  others_parts i a ts o =
      option_map_or (λ trace. parts_from k (parts k) c path (i + 1) (with_child i a trace) ts e) o []

  first_then : (i : ℕ) (sofar b : SoFar) (t : WideTree) (ts : List WideTree) (trace : WideTrace)
      (us vs : List PartValue) → ((a : Attrs) (rest : List PartValue) →
      ShowAs (λ b. b) (show a (value_under (path ++ i ∷ []) trace.value)) us rest
      (parts_shown k (λ b. b) a (us ++ rest) t)) →
      ChildrenShow k path (with_child i sofar trace) b ts vs → ChildrenShow k path sofar b (t ∷ ts) (us ++ vs)
  unfolding show
  first_then i sofar b t ts trace us vs h g =
      record {
        values = value_under (i ∷ []) trace.value ∷ g.values;
        are = g.are ∙ append_assoc sofar.values (value_under (i ∷ []) trace.value ∷ []) g.values;
        show = λ a rest. by a rest;
      }
    where
      by : (a : Attrs) (rest : List PartValue) →
          ShowEach (show_all false a (values_under path (vals (value_under (i ∷ []) trace.value ∷ g.values))))
          (us ++ vs) rest (children_shown (parts_shown k) a ((us ++ vs) ++ rest) (t ∷ ts))
      by a rest =
          let v : WideValue = value_under path (value_under (i ∷ []) trace.value) in
          let r : PartsShown = parts_shown k (λ b. b) a (us ++ (vs ++ rest)) t in
          let first : ShowAs (λ b. b) (show a v) us (vs ++ rest) r =
          subst (λ w. ShowAs (λ b. b) (show a w) us (vs ++ rest) r) (under_nested path (i ∷ []) trace.value)
          (h a (vs ++ rest)) in
          let others : AllShown = show_all false (show a v).after (values_under path (vals g.values)) in
          let second : ShowEach others vs rest (children_shown (parts_shown k) r.after r.left ts) =
          subst (λ c. ShowEach others vs rest (children_shown (parts_shown k) c r.left ts)) (sym first.after)
          (subst (λ ps. ShowEach others vs rest (children_shown (parts_shown k) (show a v).after ps ts))
          (sym first.left) (g.show (show a v).after rest)) in
          subst (λ ps. ShowEach (first_and (show a v) others) (us ++ vs) rest
          (children_shown (parts_shown k) a ps (t ∷ ts))) (sym (append_assoc us vs rest))
          (both_show (show a v) others us vs rest r (children_shown (parts_shown k) r.after r.left ts) first second)

  children_show : (i : ℕ) (sofar b : SoFar) (ts : List WideTree) →
      children_from (evaluates k) c i sofar ts e ≡ Some b →
      ChildrenShow k path sofar b ts (values_of (parts_from k (parts k) c path i sofar ts e))
  children_show i sofar b [] h =
      let same : sofar.values ≡ b.values = cc in
      record {
        values = [];
        are = sym same ∙ sym (append-nil sofar.values);
        show = show_nothing;
      }
  children_show i sofar b (t ∷ ts) h =
      by (first_done (evaluates k) c i sofar t ts e b h)
      (λ trace g. children_show (i + 1) (with_child i sofar trace) b ts g)
    where
      by : FirstDone (evaluates k) c i sofar t ts e b → ((trace : WideTrace) →
          children_from (evaluates k) c (i + 1) (with_child i sofar trace) ts e ≡ Some b →
          ChildrenShow k path (with_child i sofar trace) b ts
          (values_of (parts_from k (parts k) c path (i + 1) (with_child i sofar trace) ts e))) →
          ChildrenShow k path sofar b (t ∷ ts) (values_of (parts_from k (parts k) c path i sofar (t ∷ ts) e))
      by f go =
          let d : Before = env_atop sofar.writes e in
          let first : List Part = parts k (c - sofar.cost) (path ++ i ∷ []) t d in
          let others : List Part = parts_from k (parts k) c path (i + 1) (with_child i sofar f.trace) ts e in
          subst (λ o. ChildrenShow k path sofar b (t ∷ ts) (values_of (first ++ others_parts i sofar ts o)))
          (sym f.first)
          (subst (ChildrenShow k path sofar b (t ∷ ts)) (sym (both_values first others))
          (first_then i sofar b t ts f.trace (values_of first) (values_of others)
          (λ a rest. all (c - sofar.cost) (path ++ i ∷ []) t d f.trace (λ b. b) a rest f.first)
          (go f.trace f.others)))

-- the whole is a list
document_shows : (k : ℕ) (path : List ℕ) (b : SoFar) (ts : List WideTree) (vs : List PartValue)
    (back : Attrs → Attrs) (a : Attrs) (rest : List PartValue) → ChildrenShow k path nothing_yet b ts vs →
    ShowAs back (show a (value_under path (document_trace b).value)) vs rest
    (children_shown (parts_shown k) a (vs ++ rest) ts)
unfolding show rule_of
document_shows k path b ts vs back a rest h =
    let g = h.show a rest in
    subst (λ us. ShowAs back (document_shown (show_all false a (values_under path (vals us)))) vs rest
    (children_shown (parts_shown k) a (vs ++ rest) ts)) (sym h.are)
    (record {
      each = g.each;
      after = g.after;
      left = g.left;
      paragraphs = g.paragraphs ∙ sym (append-nil _);
      errors = g.errors;
    })

-- ---- any tree

module _ (k : ℕ) (all : AllShow k) (c : ℕ) (path : List ℕ) (t : WideTree) (e : Before) (trace : WideTrace)
    (back : Attrs → Attrs) (a : Attrs) (rest : List PartValue) where
  -- these parts show what the tree shows
  abbrev AsTree : List PartValue → PartsShown → Type 0
  AsTree vs r = ShowAs back (show a (value_under path trace.value)) vs rest r

  document_step : (ts : List WideTree) →
      composed_as (Document ts) k (evaluates k) c t e ≡ Some trace →
      AsTree (values_of (parts_as (Document ts) k (parts k) c path t e))
      (shown_as (Document ts) (parts_shown k) back a
      (values_of (parts_as (Document ts) k (parts k) c path t e) ++ rest) t)
  document_step ts h = by (nat_le 1 c) (children_from (evaluates k) (c - 1) 0 nothing_yet ts e) refl h
    where
      by : (enough : Bool) (o : Option SoFar) → children_from (evaluates k) (c - 1) 0 nothing_yet ts e ≡ o →
          (if enough then option_map document_trace o else None) ≡ Some trace →
          AsTree (values_of (parts_as (Document ts) k (parts k) c path t e))
          (shown_as (Document ts) (parts_shown k) back a
          (values_of (parts_as (Document ts) k (parts k) c path t e) ++ rest) t)
      by false o q g = cc
      by true None q g = cc
      by true (Some b) q g =
          let same : document_trace b ≡ trace = cc in
          let vs : List PartValue = values_of (parts_from k (parts k) (c - 1) path 0 nothing_yet ts e) in
          subst (λ z. ShowAs back (show a (value_under path z.value)) vs rest
          (children_shown (parts_shown k) a (vs ++ rest) ts)) same
          (document_shows k path b ts vs back a rest (children_show k all (c - 1) path e 0 nothing_yet b ts q))

  with_step : (ps : Settings) (b : WideTree) →
      composed_as (With ps b) k (evaluates k) c t e ≡ Some trace →
      AsTree (values_of (parts_as (With ps b) k (parts k) c path t e))
      (shown_as (With ps b) (parts_shown k) back a
      (values_of (parts_as (With ps b) k (parts k) c path t e) ++ rest) t)
  with_step ps b h =
      by (nat_le (1 + settings_cost ps) c)
      (evaluates k (c - (1 + settings_cost ps)) b (env_atop (set_by ps) e)) refl h
    where
      by : (enough : Bool) (o : Option WideTrace) →
          evaluates k (c - (1 + settings_cost ps)) b (env_atop (set_by ps) e) ≡ o →
          (if enough then option_map (with_trace ps) o else None) ≡ Some trace →
          AsTree (values_of (parts_as (With ps b) k (parts k) c path t e))
          (shown_as (With ps b) (parts_shown k) back a
          (values_of (parts_as (With ps b) k (parts k) c path t e) ++ rest) t)
      by false o q g = cc
      by true None q g = cc
      by true (Some z) q g =
          let same : with_trace ps z ≡ trace = cc in
          let below : List ℕ = path ++ (2 * length ps) ∷ [] in
          let d : Before = env_atop (set_by ps) e in
          let vs : List PartValue = values_of (parts k (c - (1 + settings_cost ps)) below b d) in
          let ends : Attrs → Attrs = λ x. back (settings_given_back ps a x) in
          let inner : PartsShown = parts_shown k ends (settings_set ps a) (vs ++ rest) b in
          let whole : PartsShown = record inner { after = settings_given_back ps a inner.after } in
          let s : Shown = show (settings_set ps a) (value_under below z.value) in
          subst (λ y. ShowAs back (show a (value_under path y.value)) vs rest whole) same
          (subst (λ y. ShowAs back y vs rest whole) (with_shows path ps z a)
          (settings_back ps back a s vs rest inner
          (all (c - (1 + settings_cost ps)) below b d z ends (settings_set ps a) rest q)))

  each_step : (o : Openness) → composed_as o k (evaluates k) c t e ≡ Some trace →
      AsTree (values_of (parts_as o k (parts k) c path t e))
      (shown_as o (parts_shown k) back a (values_of (parts_as o k (parts k) c path t e) ++ rest) t)
  each_step (Document ts) h = document_step ts h
  each_step (With ps b) h = with_step ps b h
  each_step Shut h = shut_part path (evaluates (suc k) c t e) trace back a rest t h

all_show : (k : ℕ) → AllShow k
unfolding parts_by parts_shown
all_show zero c path t e trace back a rest h =
    let off : None ≡ Some trace = sym (none_low c t e) ∙ h in
    cc
all_show (suc k) c path t e trace back a rest h =
    each_step k (all_show k) c path t e trace back a rest (openness t) (sym (inner_are k c t e) ∙ h)

-- ---- a whole tree

-- a unit is one paragraph at least
unit_or_one : (f : Form) (end : Attrs) → unit_paragraphs f end ≡ or_one end (one_by_one ((f, end) ∷ []))
unit_or_one (inline r) end = refl
unit_or_one (listed ps) end = ap (or_one end) (sym (append-nil ps))

module _ (k c : ℕ) (t : WideTree) (e : Before) (trace : WideTrace) (a : Attrs)
    (h : evaluates k c t e ≡ Some trace) where
  whole_shown : ShowAs (λ b. b) (show a trace.value) (values_of (parts k c [] t e)) []
      (tree_shown k a (map stored_part (parts k c [] t e)) t)
  whole_shown =
      let vs : List PartValue = values_of (parts k c [] t e) in
      subst (λ v. ShowAs (λ b. b) (show a v) vs [] (parts_shown k (λ b. b) a vs t)) (under_none trace.value)
      (subst (λ ps. ShowAs (λ b. b) (show a (value_under [] trace.value)) vs [] (parts_shown k (λ b. b) a ps t))
      (append-nil vs) (all_show k c [] t e trace (λ b. b) a [] h))

  pub each_shown : map own_value (tree_shown k a (map stored_part (parts k c [] t e)) t).each ≡
      kept_values (map stored_part (parts k c [] t e))
  each_shown = whole_shown.each

  pub paragraphs_shown : shown_paragraphs a trace.value ≡
      paragraphs_by_parts (tree_shown k a (map stored_part (parts k c [] t e)) t)
  paragraphs_shown =
      let s : Shown = show a trace.value in
      unit_or_one s.form s.after ∙ ap (λ end. or_one end (one_by_one ((s.form, s.after) ∷ []))) (sym whole_shown.after)
      ∙ ap (or_one (tree_shown k a (map stored_part (parts k c [] t e)) t).after) (sym whole_shown.paragraphs)

  pub errors_shown : (show a trace.value).errors ≡
      errors_by_parts (tree_shown k a (map stored_part (parts k c [] t e)) t)
  errors_shown = sym whole_shown.errors

  pub after_shown : (show a trace.value).after ≡ (tree_shown k a (map stored_part (parts k c [] t e)) t).after
  after_shown = sym whole_shown.after
