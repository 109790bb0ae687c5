-- What the spare has cached of the same units.
use Rattle.std.proofs.Common.{◌≡◌, ℕ, zero, suc, ◌<◌, List, [], ◌∷◌, length, drop, slice_index_or}
use Rattle.std.proofs.Common.{Option, Some, None, refl, ap, sym, subst, ◌∙◌}
use Rattle.std.proofs.lemmas.Option.{same_Some, slice_get-get_or, slice_get_within}
use Rattle.std.specs.Prelude.{true, false, if◌then◌else◌, IfSome, MatchOption, slice_get, map, zip}
use Rattle.std.specs.FinMap.{get}
use Rattle.std.specs.List.{All, AllByRecursion, IsDistinct}
use Rattle.std.specs.Str.{bytes_eq}
use Rattle.tx_origin.specs.TaggedTrees.{tagged_of}
use Rattle.tx_exec.specs.Outcomes.{wide_outcome}
use Rattle.tx_exec_form.specs.declared.TheConstants.{MOST_LEVELS}
use Rattle.tx_parts.specs.Opening.{Sheller}
use Rattle.tx_parts.specs.LayerCosts.{layer_costs_by}
use Rattle.tx_walk.specs.LayerTraces.{TreeTrace, holds_in}
use Rattle.tx_walk.specs.Walked.{paths_of}
use Rattle.tx_units.specs.declared.kinds.Unit.{Unit as DocUnit}
use Rattle.tx_view_form.specs.Outcomes.{Moment, allowance}
use Rattle.tx_bridge.specs.declared.bridge.Bridge.{Bridge}
use Rattle.tx_bridge.specs.Bridged.{Bridged}
use Rattle.tx_bridge.specs.Entries.{Entry, units_of, outcome_of}
use Rattle.tx_bridge.specs.Reached.{can_be_used}
use Rattle.tx_bridge.specs.HeldParts.{HoldsPart, kept_parts}
use Rattle.tx_bridge.specs.Sound.{TraceHolds, IsSoundBridge, entries_of, stored_parts_in, layers_in}
use Rattle.tx_bridge.specs.PartsKept.{KeptParts, has_parts}
use Rattle.tx_bridge.specs.Spares.{UnitSpare, first_spare, kept_spare, spares_of}
use Rattle.tx_bridge.specs.Charges.{parts_charge_by, whole_charge, unit_charge_by, charge_by, UnitLayersKnown}
use Rattle.tx_bridge.specs.Lent.{lent_spare, spare_of, spare_parts, spare_layers, spares_in, IsSpareOf, IsUsable}
use Rattle.tx_bridge.specs.Lent.{HaveUnitsOf}
use Rattle.tx_bridge.proofs.Partway.{units_in}
use Rattle.tx_bridge.proofs.Handed.{item_dropped}
use Rattle.tx_bridge.proofs.Taking.{heads}
use Rattle.tx_bridge.proofs.Used.{fits_is}

-- ---- of one unit

pub spare_hold : (u : DocUnit) (o : Option Bridge) → IfSome o (IsSpareOf u)
    → AllByRecursion (HoldsPart u.tagged.tree) (spare_parts o)
spare_hold u None h = tt
spare_hold u (Some b) h =
    subst (λ (v : DocUnit). AllByRecursion (HoldsPart v.tagged.tree) b.parts) h.unit h.sound.parts.hold

pub spare_distinct : (u : DocUnit) (o : Option Bridge) → IfSome o (IsSpareOf u)
    → IsDistinct bytes_eq (paths_of (spare_parts o))
unfolding IsDistinct
spare_distinct u None h = tt
spare_distinct u (Some b) h = h.sound.parts.distinct

pub spare_layers_are : (o : Option Bridge) → spare_layers o ≡ (spare_of o).layers
spare_layers_are None = refl
spare_layers_are (Some b) = refl

pub spare_parts_are : (o : Option Bridge) → kept_parts (spare_parts o) ≡ (spare_of o).parts
spare_parts_are None = refl
spare_parts_are (Some b) = refl

-- what a paragraph of the body is charged
pub parts_charge : (sheller : Sheller) (m : Moment) (u : DocUnit) (ks qs : KeptParts)
    (ls rs : List TreeTrace) (s : UnitSpare) → has_parts u ≡ true → qs ≡ s.parts → rs ≡ s.layers
    → parts_charge_by sheller m u ks qs ls rs ≡ unit_charge_by sheller m u ks ls s
parts_charge sheller m u ks qs ls rs s nested same alike =
    ap (λ ps. parts_charge_by sheller m u ks ps ls rs) same
    ∙ ap (parts_charge_by sheller m u ks s.parts ls) alike
    ∙ sym (ap (λ b. if b then parts_charge_by sheller m u ks s.parts ls s.layers else whole_charge m u s) nested)

-- what another unit is
pub bare_charge : (sheller : Sheller) (m : Moment) (u : DocUnit) (ks : KeptParts)
    (ls : List TreeTrace) (s : UnitSpare) → has_parts u ≡ false
    → whole_charge m u s ≡ unit_charge_by sheller m u ks ls s
bare_charge sheller m u ks ls s nested =
    sym (ap (λ b. if b then parts_charge_by sheller m u ks s.parts ls s.layers else whole_charge m u s) nested)

-- it has no layers
pub bare_known : (sheller : Sheller) (m : Moment) (u : DocUnit) (ls : List TreeTrace) → has_parts u ≡ false
    → UnitLayersKnown sheller m u ls
bare_known sheller m u ls nested trace is =
    ap (λ b. if b
    then layer_costs_by (holds_in ls) sheller MOST_LEVELS (allowance m) u.tagged.tree (get m.env) else 0) nested

-- where it can be used, it is the unit's outcome
pub is_usable : (m : Moment) (u : DocUnit) (o : Option Bridge) (b : Bridge) → o ≡ Some b → IfSome o (IsSpareOf u)
    → can_be_used m (wide_outcome b.kept) ≡ true → IsUsable m u o b.kept
is_usable m u o b is h fit =
    let own : IsSpareOf u b = subst (λ p. IfSome p (IsSpareOf u)) is h in
    record {
      fitting = ap (λ p. can_be_used m (spare_of p).trace) is ∙ fit;
      comes =
          fits_is m (wide_outcome b.kept) (tagged_of u.tagged)
          (subst (λ (v : DocUnit). TraceHolds (wide_outcome b.kept) (tagged_of v.tagged)) own.unit own.sound.holds) fit;
      once = own.sound.once;
    }

-- ---- of all

-- what is spare of a unit is the first of what is left there
pub first_lent : (ss : List Bridge) (i : ℕ) → first_spare (drop i (spares_in ss)) ≡ spare_of (slice_get ss i)
first_lent [] zero = refl
first_lent [] (suc i) = refl
first_lent (s ∷ ss) zero = refl
first_lent (s ∷ ss) (suc i) = first_lent ss i

pub charged : (sheller : Sheller) (m : Moment) (e : Entry) (ps : KeptParts) (ls : List TreeTrace)
    (o r : Option Bridge) (s : UnitSpare) (n : ℕ) → n ≡ charge_by sheller m e ps ls (spare_of o) → o ≡ r
    → s ≡ spare_of r → n ≡ charge_by sheller m e ps ls s
charged sheller m e ps ls o r s n is same first =
    is ∙ ap (λ p. charge_by sheller m e ps ls (spare_of p)) same ∙ ap (charge_by sheller m e ps ls) (sym first)

sound_at : (ss : List Bridge) (i : ℕ) (s : Bridge) → All IsSoundBridge ss → slice_get ss i ≡ Some s → IsSoundBridge s
sound_at ss i s h is =
    let inside : i < length ss = slice_get_within ss i s is in
    subst IsSoundBridge (same_Some (slice_index_or ss i s) s (sym (slice_get-get_or ss i s inside) ∙ is)) (h i s inside)

-- what is lent of the unit of number i, of those from there on
pub lent_here : (ss old : List Bridge) (i : ℕ) (b : Bridge) (rest : List Bridge) → All IsSoundBridge ss
    → HaveUnitsOf ss old → drop i old ≡ b ∷ rest → IfSome (slice_get ss i) (IsSpareOf b.unit)
lent_here ss old i b rest sound same ahead = by (slice_get ss i) refl
  where
    by : (o : Option Bridge) → slice_get ss i ≡ o → IfSome o (IsSpareOf b.unit)
    by None is = tt
    by (Some s) is =
        record { unit = same i s b is (item_dropped old i b rest ahead); sound = sound_at ss i s sound is }

units_alike : (ss bs : List Bridge) → units_in ss ≡ units_in bs → HaveUnitsOf ss bs
units_alike [] bs e i s b is_s is_b = cc
units_alike (x ∷ ss) [] e i s b is_s is_b = cc
units_alike (x ∷ ss) (y ∷ bs) e zero s b is_s is_b =
    ap (λ (z : Bridge). z.unit) (sym (same_Some x s is_s))
    ∙ (heads x.unit y.unit (units_in ss) (units_in bs) e).0
    ∙ ap (λ (z : Bridge). z.unit) (same_Some y b is_b)
units_alike (x ∷ ss) (y ∷ bs) e (suc i) s b is_s is_b =
    units_alike ss bs (heads x.unit y.unit (units_in ss) (units_in bs) e).1 i s b is_s is_b

none_lent : (bs : List Bridge) → HaveUnitsOf [] bs
none_lent bs i s b is_s is_b = cc

pub have_units : (ss bs : List Bridge) (o : Option Bridged) → MatchOption o (ss ≡ []) (λ b. entries_of ss ≡ b.kept)
    → IfSome o (λ b. units_of b.kept ≡ units_in bs) → HaveUnitsOf ss bs
have_units ss bs None none same = subst (λ xs. HaveUnitsOf xs bs) (sym none) (none_lent bs)
have_units ss bs (Some b) kept same = units_alike ss bs (ap units_of kept ∙ same)

-- what is lent, as contracts see it
pub zipped : (ss : List Bridge) → map kept_spare (zip (entries_of ss) (zip (stored_parts_in ss) (layers_in ss)))
    ≡ spares_in ss
zipped [] = refl
zipped (s ∷ ss) = ap (λ r. lent_spare s ∷ r) (zipped ss)

pub all_lent : (ss : List Bridge) (o : Bridged) → entries_of ss ≡ o.kept → stored_parts_in ss ≡ o.parts
    → layers_in ss ≡ o.layers → spares_in ss ≡ spares_of (Some o)
all_lent ss o kept parts layers =
    sym (zipped ss) ∙ ap (λ es. map kept_spare (zip es (zip (stored_parts_in ss) (layers_in ss)))) kept
    ∙ ap (λ pss. map kept_spare (zip o.kept (zip pss (layers_in ss)))) parts
    ∙ ap (λ lss. map kept_spare (zip o.kept (zip o.parts lss))) layers
