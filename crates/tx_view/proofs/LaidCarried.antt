-- The layout of parts through an edit, where each part that is cached is laid out, or none is.
use Rattle.std.proofs.Common.{◌≡◌, ℕ, List, [], ◌∷◌, length, map, Option, Some, refl, ap, ap₂, sym}
use Rattle.std.proofs.Common.{subst, ◌∙◌, inl, inr}
use Rattle.std.proofs.lemmas.List.{length-map}
use Rattle.std.specs.List.{AllByRecursion, filter}
use Rattle.std.specs.Option.{option_map_or}
use Rattle.tx_tree.specs.WideTree.{WideTree}
use Rattle.tx_doc.specs.declared.buffer.Buffer.{Buffer}
use Rattle.tx_mod.specs.declared.mods.Mod.{Mod}
use Rattle.tx_units.specs.declared.kinds.Unit.{Unit as DocUnit}
use Rattle.tx_units.specs.Units.{units}
use Rattle.tx_view_form.specs.Outcomes.{Moment, beginning, behind}
use Rattle.tx_view_form.specs.Started.{attributes_of}
use Rattle.tx_part_layout.specs.declared.laid.PlacedPart.{PlacedPart}
use Rattle.tx_bridge.specs.Bridged.{Bridged}
use Rattle.tx_bridge.specs.Carrying.{unit_places_after, sources_from, mods_of}
use Rattle.tx_bridge.specs.Entries.{Kept, outcome_of, units_of}
use Rattle.tx_bridge.specs.Names.{CarryParts, CarryStrays, PartMoves, Sources}
use Rattle.tx_bridge.specs.PartMoves.{NoneAbove, part_moves}
use Rattle.tx_bridge.specs.PartsKept.{KeptParts, part_paths}
use Rattle.tx_bridge.specs.Strays.{Stray, AreOutside, kept_strays, is_beside, path_at}
use Rattle.tx_bridge.proofs.Taking.{heads}
use Rattle.tx_unit_layout.specs.LaidAts.{LaidAt, laid_at}
use Rattle.tx_unit_layout.specs.LaidUnits.{AreOf}
use Rattle.tx_unit_layout.specs.declared.shown.Shown.{Shown}
use Rattle.tx_view.specs.Exchanged.{left_but}
use Rattle.tx_view.specs.Laid.{AreLaid, AreLaidOutside, AreUnitsBut, IsWay, laid_in, laid_parts_in, view_stores_in}
use Rattle.tx_view.specs.Laid.{LaidGoes}
use Rattle.tx_view.specs.LaidMoves.{laid_moves, laid_arrived, all_laid_now, laid_at_paths}
use Rattle.tx_view.specs.LaidMoves.{AreAllOrNoneLaid}
use Rattle.tx_view.specs.Names.{Fresh}
use Rattle.tx_view.specs.Stores.{ViewStores, attributes_from}
use Rattle.tx_view.specs.declared.carrying.Target.{Target}
use Rattle.tx_view.specs.declared.carrying.Target.TheVariants.{InPlace, Onto}
use Rattle.tx_view.proofs.LaidTogether.{arrive_same, units_same, alike_after}
use Rattle.tx_view.proofs.Moved.{AreWithin, all_within, as_many, places_many}
use Rattle.tx_view.proofs.LaidByNumber.{arrived_by_number, laid_with, all_now_by_number, parts_by_way, strays_by_way}

-- ---- where the same parts are laid out and cached

pub alike_as : (pss qss : List KeptParts) (lss mss : List (List LaidAt)) (ks js : KeptParts) (ls ns : List LaidAt)
    → qss ≡ pss → mss ≡ lss → js ≡ ks → ns ≡ ls → AreAllOrNoneLaid pss lss ks ls → AreAllOrNoneLaid qss mss js ns
alike_as pss qss lss mss ks js ls ns p l k n h =
    subst (λ (is : List KeptParts). AreAllOrNoneLaid is mss js ns) (sym p)
    (subst (λ (is : List (List LaidAt)). AreAllOrNoneLaid pss is js ns) (sym l)
    (subst (λ (is : KeptParts). AreAllOrNoneLaid pss lss is ns) (sym k)
    (subst (λ (is : List LaidAt). AreAllOrNoneLaid pss lss ks is) (sym n) h)))

abbrev AreNothing : List (List LaidAt) → Type 0
AreNothing mss = AllByRecursion (λ ms. ms ≡ []) mss

-- units that are new have no layout
pub laid_new : (us : List DocUnit) (pss : List KeptParts) (lss : List (List LaidAt)) (ks : KeptParts)
    (ls : List LaidAt) → lss ≡ map (λ u. []) us → ls ≡ [] → AreAllOrNoneLaid pss lss ks ls
laid_new us pss lss ks ls at_units at_strays =
    inr (record { units = subst AreNothing (sym at_units) (all_none us); strays = at_strays })
  where
    all_none : (vs : List DocUnit) → AreNothing (map (λ u. []) vs)
    all_none [] = tt
    all_none (v ∷ vs) = (refl, all_none vs)

-- ---- units that are laid out

of_paths : (ks : KeptParts) (ps : List PlacedPart) → AreOf ks ps → part_paths ks ≡ laid_at_paths (map laid_at ps)
of_paths [] [] h = refl
of_paths [] (p ∷ ps) h = absurd h
of_paths (k ∷ ks) [] h = absurd h
of_paths (k ∷ ks) (p ∷ ps) h = ap₂ (λ q qs. q ∷ qs) (sym h.0.path) (of_paths ks ps h.1)

laid_from_moment : (width : ℕ) (m : Moment) (us : List DocUnit) (es : Kept) (pss : List KeptParts) (xs : List Shown)
    → AreLaid width es pss xs → laid_in xs ≡ attributes_from m us
    → map part_paths pss ≡ map laid_at_paths (laid_parts_in xs)
laid_from_moment width m us [] [] [] laid is = refl
laid_from_moment width m us [] [] (x ∷ xs) laid is = absurd laid
laid_from_moment width m us [] (ks ∷ pss) xs laid is = absurd laid
laid_from_moment width m us (e ∷ es) [] xs laid is = absurd laid
laid_from_moment width m us (e ∷ es) (ks ∷ pss) [] laid is = absurd laid
laid_from_moment width m [] (e ∷ es) (ks ∷ pss) (x ∷ xs) laid is = cc
laid_from_moment width m (u ∷ us) (e ∷ es) (ks ∷ pss) (x ∷ xs) laid is =
    let next : Moment = behind m (outcome_of m u) in
    let two = heads x.laid (Some (attributes_of m.env)) (laid_in xs) (attributes_from next us) is in
    ap₂ (λ ps pps. ps ∷ pps) (of_paths ks x.parts (laid.0.of_kept (attributes_of m.env) two.0))
    (laid_from_moment width next us es pss xs laid.1 two.1)

-- where all are evaluated and laid out, and there are no strays
pub laid_fresh : (width : ℕ) (bs : List Buffer) (b : Bridged) (xs : List Shown) (ls : List LaidAt)
    → AreLaid width b.kept b.parts xs → view_stores_in b xs ≡ Fresh bs → b.strays ≡ [] → ls ≡ []
    → AreAllOrNoneLaid b.parts (laid_parts_in xs) (kept_strays b.strays) ls
unfolding Fresh
laid_fresh width bs b xs ls laid stores none nothing =
    inl (record {
      units =
          laid_from_moment width beginning (units bs) b.kept b.parts xs laid
          (ap (λ (s : ViewStores). s.laid) stores);
      strays = ap (λ (ss : List Stray). part_paths (kept_strays ss)) none ∙ ap laid_at_paths (sym nothing);
    })

-- ---- an edit of a buffer

-- strays that are laid out are in no unit
outside : (us : List DocUnit) (ss : List Stray) (ls : List LaidAt) → AreOutside us ss
    → part_paths (kept_strays ss) ≡ laid_at_paths ls → AreLaidOutside us ls
outside us [] [] h e = tt
outside us [] (l ∷ ls) h e = cc
outside us (s ∷ ss) [] h e = cc
outside us (s ∷ ss) (l ∷ ls) h e =
    let both = heads s.kept.path l.path (part_paths (kept_strays ss)) (laid_at_paths ls) e in
    (subst (λ (p : List ℕ). NoneAbove p us) both.0 h.0, outside us ss ls h.1 both.1)

laid_outside : (us : List DocUnit) (pss : List KeptParts) (lss : List (List LaidAt)) (ss : List Stray)
    (ls : List LaidAt) → AreOutside us ss → AreAllOrNoneLaid pss lss (kept_strays ss) ls → AreLaidOutside us ls
laid_outside us pss lss ss ls h (inl are) = outside us ss ls h are.strays
laid_outside us pss lss ss ls h (inr none) = subst (AreLaidOutside us) (sym none.strays) tt

module _ (width buffer : ℕ) (ms : List Mod) (t : WideTree) (old : Kept) (pss : List KeptParts) (strays : List Stray)
    (olds : List Shown) (ls : List LaidAt) (vs : List DocUnit) (laid : AreLaid width old pss olds)
    (alike : AreAllOrNoneLaid pss (laid_parts_in olds) (kept_strays strays) ls) where
  abbrev us : List DocUnit
  us = units_of old

  abbrev lss : List (List LaidAt)
  lss = laid_parts_in olds

  abbrev ks : KeptParts
  ks = kept_strays strays

  abbrev ss : List (Option ℕ)
  ss = Sources buffer ms t us vs

  many : length lss ≡ length us
  many = length-map olds (λ (y : Shown). map laid_at y.parts) ∙ as_many width old pss olds laid

  within : AreWithin (length lss) ss
  unfolding Sources
  within =
      let places = unit_places_after (mods_of buffer ms) t us in
      subst (λ n. AreWithin n (sources_from places us 0 vs)) (sym many)
      (all_within places us 0 vs (places_many (mods_of buffer ms) t us))

  -- what is laid out goes as the way of the edit says
  abbrev UnitsGo : Type 0
  UnitsGo =
      parts_by_way buffer ms t us pss ks lss ls vs ss
      ≡ all_laid_now lss (laid_moves buffer ms t us lss ls vs) 0 ss

  abbrev StraysGo : Type 0
  StraysGo =
      strays_by_way buffer ms t us pss ks lss ls vs ≡ laid_arrived (laid_moves buffer ms t us lss ls vs) (length vs)

  in_place : (i : ℕ) → AreUnitsBut i ms t us vs → AreOutside us strays
      → (left_but ms t i us lss
      ≡ all_laid_now lss (laid_moves 0 ms t us lss ls vs) 0 (Sources 0 ms t us vs))
      × (filter (λ l. is_beside (path_at i us) l.path) ls ≡ laid_arrived (laid_moves 0 ms t us lss ls vs) (length vs))
  unfolding LaidGoes
  in_place i one out =
      subst (λ (ws : List DocUnit).
      (left_but ms t i us lss
      ≡ all_laid_now lss (laid_moves 0 ms t us lss ls ws) 0 (Sources 0 ms t us ws))
      × (filter (λ l. is_beside (path_at i us) l.path) ls ≡ laid_arrived (laid_moves 0 ms t us lss ls ws) (length ws)))
      (sym one.are) (one.laid lss ls many (laid_outside us pss lss strays ls out alike))

  pub they_go : (to : Target) (ts : List (Option ℕ)) → IsWay buffer ms t us vs ts to → AreOutside us strays
      → UnitsGo × StraysGo
  unfolding PartMoves
  they_go (InPlace i silent ps) ts way out =
      let both = in_place i way.3 out in
      let first : buffer ≡ 0 = way.1.document in (
        ap (λ o. option_map_or (λ k. left_but ms t k us lss) o
            (all_now_by_number (laid_with lss ls) (part_moves buffer ms t us pss ks vs) 0 ss)) way.0
            ∙ both.0
            ∙ ap (λ n. all_laid_now lss (laid_moves n ms t us lss ls vs) 0 (Sources n ms t us vs)) (sym first),
        ap (λ o. option_map_or (λ k. filter (λ l. is_beside (path_at k us) l.path) ls) o
            (arrived_by_number (laid_with lss ls) (part_moves buffer ms t us pss ks vs) (length vs))) way.0
            ∙ both.1
            ∙ ap (λ n. laid_arrived (laid_moves n ms t us lss ls vs) (length vs)) (sym first),
      )
  they_go (Onto blanks) ts way out = (
    ap (λ o. option_map_or (λ k. left_but ms t k us lss) o
        (all_now_by_number (laid_with lss ls) (part_moves buffer ms t us pss ks vs) 0 ss)) way.0
        ∙ units_same buffer ms t us pss lss ks ls vs many alike 0 ss within,
    ap (λ o. option_map_or (λ k. filter (λ l. is_beside (path_at k us) l.path) ls) o
        (arrived_by_number (laid_with lss ls) (part_moves buffer ms t us pss ks vs) (length vs))) way.0
        ∙ arrive_same buffer ms t us pss lss ks ls vs many alike (length vs),
  )

  -- each part that is cached then is laid out, or none is
  pub alike_then : (ts : List (Option ℕ))
      → AreAllOrNoneLaid (CarryParts pss (PartMoves buffer ms t us pss ks vs) ts)
      (all_laid_now lss (laid_moves buffer ms t us lss ls vs) 0 ts)
      (CarryStrays (PartMoves buffer ms t us pss ks vs) (length vs))
      (laid_arrived (laid_moves buffer ms t us lss ls vs) (length vs))
  unfolding CarryParts CarryStrays PartMoves
  alike_then ts = alike_after buffer ms t us pss lss ks ls vs many alike ts (length vs)
