-- Parts that are in no unit: those that are unchanged where one unit changes alone, and what is cached of them.
use Rattle.std.proofs.Common.{◌≡◌, ℕ, zero, suc, ◌<◌, List, [], ◌∷◌, length, map, slice_set, Bool, true, false, Option}
use Rattle.std.proofs.Common.{Some, None, ◌⊎◌, inl, inr, refl, ap, sym, subst, ◌∙◌, arith}
use Rattle.std.proofs.lemmas.List.Elements.{All-filter}
use Rattle.std.specs.List.{AllByRecursion, IsDistinct, filter}
use Rattle.std.proofs.lemmas.Option.{slice_get-map}
use Rattle.std.specs.Option.{option_map, option_map_or}
use Rattle.std.specs.Prelude.{cond, not, option_and_then, slice_get}
use Rattle.std.specs.Str.{bytes_eq}
use Rattle.tx_tree.specs.WideTree.{WideTree}
use Rattle.tx_mod.specs.declared.mods.Mod.{Mod}
use Rattle.tx_mod.specs.Followed.{changed_by_all}
use Rattle.tx_doc.specs.Buffers.{document_of, tree_of, with_tree}
use Rattle.tx_doc.specs.declared.buffer.Buffer.{Buffer}
use Rattle.tx_units.specs.declared.kinds.Unit.{Unit as DocUnit}
use Rattle.tx_part_layout.specs.declared.laid.PlacedPart.{PlacedPart}
use Rattle.tx_part_layout.specs.LaidParts.{IsLaidPart}
use Rattle.tx_bridge.proofs.KeptAlong.{strays_hold}
use Rattle.tx_bridge.specs.Entries.{Entry, Kept, units_of}
use Rattle.tx_bridge.specs.InPlace.{begins_path}
use Rattle.tx_bridge.specs.HeldParts.{StoredAllHold}
use Rattle.tx_bridge.specs.Names.{StraysBeside}
use Rattle.tx_bridge.specs.PartsKept.{KeptParts}
use Rattle.tx_bridge.specs.Strays.{Stray, AreStrays, StandAside, kept_strays, is_beside, path_at}
use Rattle.tx_unit_layout.specs.LaidAts.{laid_at}
use Rattle.tx_unit_layout.specs.LaidUnits.{AreOf, AreLaidParts}
use Rattle.tx_view.specs.Laid.{HasShortPlaces, placed_beside}
use Rattle.tx_view.proofs.OfParts.{AreDistinct, no_parts, paths_laid}

-- ---- those that are unchanged

module _ (f : List ℕ → Bool) where
  kept_by : (ss : List Stray) → kept_strays (filter (λ s. f s.kept.path) ss) ≡ filter (λ k. f k.path) (kept_strays ss)
  kept_by [] = refl
  kept_by (s ∷ ss) = by (f s.kept.path) (kept_by ss)
    where
      by : (b : Bool) → kept_strays (filter (λ s. f s.kept.path) ss) ≡ filter (λ k. f k.path) (kept_strays ss)
          → kept_strays (cond b (s ∷ filter (λ s. f s.kept.path) ss) (filter (λ s. f s.kept.path) ss))
          ≡ cond b (s.kept ∷ filter (λ k. f k.path) (kept_strays ss)) (filter (λ k. f k.path) (kept_strays ss))
      by true e = ap (λ ks. s.kept ∷ ks) e
      by false e = e

  pub ats_aside : (ps : List PlacedPart)
      → map laid_at (filter (λ p. f p.path) ps) ≡ filter (λ l. f l.path) (map laid_at ps)
  ats_aside [] = refl
  ats_aside (p ∷ ps) = by (f p.path) (ats_aside ps)
    where
      by : (b : Bool) → map laid_at (filter (λ p. f p.path) ps) ≡ filter (λ l. f l.path) (map laid_at ps)
          → map laid_at (cond b (p ∷ filter (λ p. f p.path) ps) (filter (λ p. f p.path) ps))
          ≡ cond b (laid_at p ∷ filter (λ l. f l.path) (map laid_at ps)) (filter (λ l. f l.path) (map laid_at ps))
      by true e = ap (λ ls. laid_at p ∷ ls) e
      by false e = e

  of_by : (ks : KeptParts) (ps : List PlacedPart) → AreOf ks ps
      → AreOf (filter (λ k. f k.path) ks) (filter (λ p. f p.path) ps)
  of_by [] [] h = tt
  of_by [] (p ∷ ps) h = absurd h
  of_by (k ∷ ks) [] h = absurd h
  of_by (k ∷ ks) (p ∷ ps) h = by (f k.path) (f p.path) (ap f (sym h.0.path)) (of_by ks ps h.1)
    where
      by : (b c : Bool) → b ≡ c → AreOf (filter (λ k. f k.path) ks) (filter (λ p. f p.path) ps)
          → AreOf (cond b (k ∷ filter (λ k. f k.path) ks) (filter (λ k. f k.path) ks))
          (cond c (p ∷ filter (λ p. f p.path) ps) (filter (λ p. f p.path) ps))
      by true true e rest = (h.0, rest)
      by false false e rest = rest
      by true false e rest = cc
      by false true e rest = cc

  pub short_aside : (ps : List PlacedPart) → AllByRecursion HasShortPlaces ps
      → AllByRecursion HasShortPlaces (filter (λ p. f p.path) ps)
  short_aside [] h = tt
  short_aside (p ∷ ps) h = by (f p.path) (short_aside ps h.1)
    where
      by : (b : Bool) → AllByRecursion HasShortPlaces (filter (λ p. f p.path) ps)
          → AllByRecursion HasShortPlaces (cond b (p ∷ filter (λ p. f p.path) ps) (filter (λ p. f p.path) ps))
      by true rest = (h.0, rest)
      by false rest = rest

  pub laid_aside : (width : ℕ) (ks : KeptParts) (ps : List PlacedPart) → AreLaidParts width ks ps
      → AreDistinct (filter (λ k. f k.path) ks)
      → AreLaidParts width (filter (λ k. f k.path) ks) (filter (λ p. f p.path) ps)
  laid_aside width ks ps laid apart = by laid.of_kept
    where
      by : (ps ≡ []) ⊎ AreOf ks ps → AreLaidParts width (filter (λ k. f k.path) ks) (filter (λ p. f p.path) ps)
      by (inl none) =
          subst (λ (qs : List PlacedPart). AreLaidParts width (filter (λ k. f k.path) ks) (filter (λ p. f p.path) qs))
          (sym none) (no_parts width (filter (λ k. f k.path) ks))
      by (inr of) =
          let still = of_by ks ps of in
          record {
            each = All-filter (λ p. f p.path) (λ (p : PlacedPart). IsLaidPart width p.laid.value) ps laid.each;
            distinct =
                subst (IsDistinct bytes_eq)
                (paths_laid (filter (λ k. f k.path) ks) (filter (λ p. f p.path) ps) still) apart;
            of_kept = inr still;
          }

pub kept_beside : (i : ℕ) (us : List DocUnit) (ss : List Stray)
    → kept_strays (StraysBeside i us ss) ≡ filter (λ k. is_beside (path_at i us) k.path) (kept_strays ss)
unfolding StraysBeside
kept_beside i us ss = kept_by (is_beside (path_at i us)) ss

-- ---- their lines that are unchanged

all_pass : (ps : List PlacedPart) → filter (λ p. true) ps ≡ ps
all_pass [] = refl
all_pass (p ∷ ps) = ap (λ qs. p ∷ qs) (all_pass ps)

placed_by : (i : ℕ) (kept : Kept) (o : Option DocUnit) (q : Option (List ℕ)) (ps : List PlacedPart)
    → option_map (λ e. e.unit) (slice_get kept i) ≡ o → option_and_then (λ u. u.path) o ≡ q
    → placed_beside i (units_of kept) ps ≡ filter (λ p. is_beside q p.path) ps
placed_by i kept o q ps there is =
    ap (λ r. filter (λ p. is_beside r p.path) ps)
    (ap (option_and_then (λ (u : DocUnit). u.path)) (slice_get-map (λ (e : Entry). e.unit) kept i ∙ there) ∙ is)

pub placed_none : (i : ℕ) (kept : Kept) (ps : List PlacedPart) → slice_get kept i ≡ None
    → ps ≡ placed_beside i (units_of kept) ps
placed_none i kept ps none =
    sym (placed_by i kept None None ps (ap (option_map (λ (e : Entry). e.unit)) none) refl ∙ all_pass ps)

pub placed_bare : (i : ℕ) (kept : Kept) (u : DocUnit) (ps : List PlacedPart)
    → option_map (λ e. e.unit) (slice_get kept i) ≡ Some u → u.path ≡ None → ps ≡ placed_beside i (units_of kept) ps
placed_bare i kept u ps there bare = sym (placed_by i kept (Some u) None ps there bare ∙ all_pass ps)

pub placed_there : (i : ℕ) (kept : Kept) (u : DocUnit) (path : List ℕ) (ps qs : List PlacedPart)
    → option_map (λ e. e.unit) (slice_get kept i) ≡ Some u → u.path ≡ Some path
    → qs ≡ filter (λ p. not (begins_path p.path path)) ps → qs ≡ placed_beside i (units_of kept) ps
placed_there i kept u path ps qs there is left = left ∙ sym (placed_by i kept (Some u) (Some path) ps there is)

-- ---- what is cached of them

pub all_hold_aside : (t : WideTree) (us : List DocUnit) (ss : List Stray) → AreStrays us ss → StandAside t ss
    → StoredAllHold t (kept_strays ss)
all_hold_aside t us ss are stand =
    record { hold = strays_hold t ss are.hold stand; distinct = are.distinct }

-- ---- where they are after an edit

-- another buffer has another tree
document_beside : (b : Buffer) (bs : List Buffer) (k : ℕ) (t : WideTree)
    → document_of (with_tree (b ∷ bs) (suc k) t) ≡ b.tree
document_beside b bs k t = by (slice_get bs k)
  where
    by : (o : Option Buffer)
        → tree_of (option_map_or (λ c. slice_set (b ∷ bs) (suc k) (record { name = c.name; tree = t })) o (b ∷ bs)) 0
        ≡ b.tree
    by None = refl
    by (Some c) = refl

pub aside_after : (bs : List Buffer) (buffer : ℕ) (ms : List Mod) (t before : WideTree) (old new : List Stray)
    → buffer < length bs → before ≡ tree_of bs buffer → changed_by_all ms (tree_of bs buffer) ≡ Some t
    → StandAside (document_of bs) old
    → (buffer ≡ 0 → (u : WideTree) → changed_by_all ms before ≡ Some u → StandAside u new)
    → ((buffer ≡ 0 → ⊥) → (u : WideTree) → StandAside u old → StandAside u new)
    → StandAside (document_of (with_tree bs buffer t)) new
aside_after [] buffer ms t before old new inside at made stand here there = absurd (omega (arith, inside))
aside_after (b ∷ bs) zero ms t before old new inside at made stand here there =
    here refl t (ap (changed_by_all ms) at ∙ made)
aside_after (b ∷ bs) (suc k) ms t before old new inside at made stand here there =
    subst (λ u. StandAside u new) (sym (document_beside b bs k t)) (there (λ e. omega (arith, e)) b.tree stand)

pub aside_before : (bs : List Buffer) (buffer : ℕ) (before : WideTree) (old : List Stray)
    → before ≡ tree_of bs buffer → StandAside (document_of bs) old → buffer ≡ 0 → StandAside before old
aside_before bs buffer before old at stand first =
    subst (λ u. StandAside u old) (ap (tree_of bs) (sym first) ∙ sym at) stand
