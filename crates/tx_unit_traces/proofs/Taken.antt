-- Traces of paragraphs, by their paths.
use Rattle.std.proofs.Common.{◌≡◌, ℕ, zero, suc, ◌+◌, Bool, true, false, List, [], ◌∷◌, ◌++◌, Option, Some, None}
use Rattle.std.proofs.Common.{◌<◌, ◌≤◌, drop, length, slice_index_or, refl, sym, ap, subst, ◌∙◌}
use Rattle.std.proofs.lemmas.List.{append_assoc, append-nil, length-append, drop_all}
use Rattle.std.proofs.lemmas.List.Elements.{filter_map-append}
use Rattle.std.proofs.lemmas.Option.{slice_get_read}
use Rattle.std.proofs.lemmas.Slice.Eq.{bytes_eq-Decides}
use Rattle.std.specs.Prelude.{slice_get, option_map, if◌then◌else◌}
use Rattle.std.specs.List.{AllByRecursion, cons_option}
use Rattle.std.specs.Option.{IsSome}
use Rattle.std.specs.Str.{bytes_eq}
use Rattle.tx_tree.specs.Paths.{subtree}
use Rattle.tx_tree.specs.WideTree.{WideTree}
use Rattle.tx_tree.proofs.Walks.{drop_item}
use Rattle.tx_mod.specs.Orders.{IsBefore}
use Rattle.tx_kept.specs.declared.path_map.Entry.{Entry}
use Rattle.tx_kept.specs.Carrying.{carry}
use Rattle.tx_kept.specs.Entries.{AllAfter, IsInOrder, IsAt, NoneAt, AllLead}
use Rattle.tx_kept.proofs.Found.{not_before_itself}
use Rattle.tx_exec_form.specs.Evaluated.{WideTrace}
use Rattle.tx_unit_traces.specs.declared.cached_unit.CachedUnit.{CachedUnit}
use Rattle.tx_unit_traces.specs.UnitLists.{IsApart, AreApart, AllStand, paths_of}
use Rattle.tx_unit_traces.specs.Units.{units_of}
use Rattle.tx_units.specs.declared.kinds.Unit.{Unit as DocUnit}
use Rattle.tx_unit_traces.specs.Carrying.{Whole, whole_entry, whole_of, trace_at, trace_for, taken_from}

-- ---- they are in order

abbrev entry_at : CachedUnit → List ℕ → Entry (Option WideTrace)
entry_at u p = record { path = p; value = u.trace }

pub whole_next : (u : CachedUnit) (us : List CachedUnit) → whole_of (u ∷ []) ++ whole_of us ≡ whole_of (u ∷ us)
whole_next u us = sym (filter_map-append whole_entry (u ∷ []) us)

whole_after : (p : List ℕ) (us : List CachedUnit) → AllByRecursion (IsApart p) (paths_of (units_of us))
    → AllAfter p (whole_of us)
whole_after p [] h = tt
whole_after p (u ∷ us) h = by u.unit.path (whole_after p us) h
  where
    by : (o : Option (List ℕ)) → (AllByRecursion (IsApart p) (paths_of (units_of us)) → AllAfter p (whole_of us))
        → AllByRecursion (IsApart p) (cons_option o (paths_of (units_of us)))
        → AllAfter p (cons_option (option_map (entry_at u) o) (whole_of us))
    by None ih g = ih g
    by (Some q) ih g = (g.0.before, ih g.1)

pub whole_in_order : (us : List CachedUnit) → AreApart (paths_of (units_of us)) → IsInOrder (whole_of us)
whole_in_order [] h = tt
whole_in_order (u ∷ us) h = by u.unit.path (whole_in_order us) h
  where
    by : (o : Option (List ℕ)) → (AreApart (paths_of (units_of us)) → IsInOrder (whole_of us))
        → AreApart (cons_option o (paths_of (units_of us)))
        → IsInOrder (cons_option (option_map (entry_at u) o) (whole_of us))
    by None ih g = ih g
    by (Some q) ih g = (whole_after q us g.0, ih g.1)

-- ---- their paths lead

pub whole_lead : (t : WideTree) (us : List CachedUnit) → AllStand t (units_of us) → AllLead t (whole_of us)
whole_lead t [] h = tt
whole_lead t (u ∷ us) h = by u.unit.path h.0 (whole_lead t us h.1)
  where
    leads : (o : Option WideTree) → o ≡ Some u.unit.tagged.tree → IsSome o
    leads None e = absurd (cc)
    leads (Some x) e = refl

    by : (o : Option (List ℕ)) → ((p : List ℕ) → o ≡ Some p → subtree t p ≡ Some u.unit.tagged.tree)
        → AllLead t (whole_of us) → AllLead t (cons_option (option_map (entry_at u) o) (whole_of us))
    by None stand rest = rest
    by (Some q) stand rest = (leads (subtree t q) (stand q refl), rest)

-- ---- one of them

pub trace_none : (p : List ℕ) (xs : Whole) → NoneAt p xs → trace_at xs p ≡ None
trace_none p [] h = refl
trace_none p (x ∷ xs) h = by (bytes_eq x.path p) refl (trace_none p xs (λ i y at. h (suc i) y at))
  where
    by : (b : Bool) → bytes_eq x.path p ≡ b → trace_at xs p ≡ None → (if b then x.value else trace_at xs p) ≡ None
    by true e rest = absurd (h 0 x refl ((bytes_eq-Decides x.path p).0 e))
    by false e rest = rest

after_there : (p : List ℕ) (xs : Whole) (i : ℕ) (x : Entry (Option WideTrace)) → AllAfter p xs
    → slice_get xs i ≡ Some x → IsBefore p x.path
after_there p [] i x h e = absurd (cc)
after_there p (y ∷ xs) zero x h e = let is : y ≡ x = cc in subst (λ (z : Entry (Option WideTrace)). IsBefore p z.path) is h.0
after_there p (y ∷ xs) (suc i) x h e = after_there p xs i x h.1 e

pub trace_there : (p : List ℕ) (xs : Whole) (i : ℕ) (x : Entry (Option WideTrace)) → IsInOrder xs
    → slice_get xs i ≡ Some x → x.path ≡ p → trace_at xs p ≡ x.value
trace_there p [] i x h e same = absurd (cc)
trace_there p (y ∷ xs) zero x h e same =
    let is : y ≡ x = cc in
    ap (λ b. if b then y.value else trace_at xs p)
    ((bytes_eq-Decides y.path p).1 (ap (λ (z : Entry (Option WideTrace)). z.path) is ∙ same))
    ∙ ap (λ (z : Entry (Option WideTrace)). z.value) is
trace_there p (y ∷ xs) (suc i) x h e same = by (bytes_eq y.path p) refl (trace_there p xs i x h.1 e same)
  where
    by : (b : Bool) → bytes_eq y.path p ≡ b → trace_at xs p ≡ x.value
        → (if b then y.value else trace_at xs p) ≡ x.value
    by true f rest =
        let here : y.path ≡ p = (bytes_eq-Decides y.path p).0 f in
        absurd (not_before_itself p
        (subst (λ q. IsBefore q p) here (subst (IsBefore y.path) same (after_there y.path xs i x h.0 e))))
    by false f rest = rest

pub trace_read : (p : List ℕ) (xs : Whole) (i : ℕ) (y : Entry (Option WideTrace)) → IsInOrder xs → IsAt p xs i
    → y ≡ slice_index_or xs i y → y.value ≡ trace_at xs p
trace_read p xs i y order at is =
    let same : y ≡ at.entry = is ∙ read xs i at.entry y at.there in
    ap (λ (z : Entry (Option WideTrace)). z.value) same
    ∙ sym (trace_there p xs i at.entry order at.there at.stands)
  where
    read : (ys : Whole) (j : ℕ) (x d : Entry (Option WideTrace)) → slice_get ys j ≡ Some x → slice_index_or ys j d ≡ x
    read [] j x d e = absurd (cc)
    read (z ∷ ys) zero x d e = cc
    read (z ∷ ys) (suc j) x d e = read ys j x d e

-- ---- all of them, one after the other

pub whole_step : (us : List CachedUnit) (i : ℕ) (u : CachedUnit) (old new : Whole) → i < length us
    → u ≡ slice_index_or us i u → new ≡ old ++ whole_of (u ∷ []) → old ++ whole_of (drop i us) ≡ whole_of us
    → new ++ whole_of (drop (i + 1) us) ≡ whole_of us
whole_step us i u old new lt is put h =
    let there : slice_get us i ≡ Some u = slice_get_read us (length us) i u refl lt is in
    ap (λ xs. xs ++ whole_of (drop (i + 1) us)) put
    ∙ append_assoc old (whole_of (u ∷ [])) (whole_of (drop (i + 1) us))
    ∙ ap (λ xs. old ++ xs) (whole_next u (drop (i + 1) us))
    ∙ ap (λ vs. old ++ whole_of vs) (sym (drop_item us i u there)) ∙ h

pub whole_done : (us : List CachedUnit) (i : ℕ) (made : Whole) → length us ≤ i
    → made ++ whole_of (drop i us) ≡ whole_of us → made ≡ whole_of us
whole_done us i made past h =
    sym (append-nil made) ∙ ap (λ vs. made ++ whole_of vs) (sym (drop_all i us past)) ∙ h

-- ---- new units take their traces

abbrev with_trace : DocUnit → Option WideTrace → CachedUnit
with_trace v trace = record { unit = v; trace = trace }

pub take_step : (whole : Whole) (old taken new : List CachedUnit) (v : DocUnit) (rest : List DocUnit)
    (all : List CachedUnit) (trace : Option WideTrace) → trace ≡ trace_for whole old (length taken) v
    → new ≡ taken ++ record { unit = v; trace = trace } ∷ []
    → taken ++ taken_from whole old (length taken) (v ∷ rest) ≡ all
    → new ++ taken_from whole old (length new) rest ≡ all
take_step whole old taken new v rest all trace is put h =
    let long : length new ≡ length taken + 1 = ap length put ∙ length-append taken (with_trace v trace ∷ []) in
    ap (λ n. new ++ taken_from whole old n rest) long
    ∙ ap (λ xs. xs ++ taken_from whole old (length taken + 1) rest)
    (put ∙ ap (λ t. taken ++ with_trace v t ∷ []) is)
    ∙ append_assoc taken (with_trace v (trace_for whole old (length taken) v) ∷ [])
    (taken_from whole old (length taken + 1) rest)
    ∙ h

-- no modifications leave all entries as they are
nothing_moves : (t : WideTree) (xs : Whole) → carry [] t xs ≡ xs
nothing_moves t [] = refl
nothing_moves t (x ∷ xs) = ap (λ ys. x ∷ ys) (nothing_moves t xs)

pub carry_nothing : (t : WideTree) (us : List CachedUnit) → carry [] t (whole_of us) ≡ whole_of us
carry_nothing t us = nothing_moves t (whole_of us)
