-- Units without a layout, and the buffers that they are of.
use Rattle.std.proofs.Common.{◌≡◌, ℕ, suc, ◌+◌, ◌<◌, List, [], ◌∷◌, ◌++◌, length, take, map, get_or, Option, Some, None}
use Rattle.std.proofs.Common.{refl, ap, sym, subst, ◌∙◌}
use Rattle.std.proofs.Common.{slice_set, slice_index_or}
use Rattle.std.proofs.lemmas.List.{take_more, length-set}
use Rattle.std.proofs.lemmas.Option.{slice_get-get_or}
use Rattle.std.proofs.lemmas.List.Elements.{All-from_recursion}
use Rattle.std.specs.List.{All, AllByRecursion}
use Rattle.std.specs.Option.{option_map_or}
use Rattle.std.specs.Prelude.{slice_get}
use Rattle.tx_tree.specs.WideTree.{WideTree, leaf}
use Rattle.tx_doc.specs.Buffers.{tree_of, with_tree}
use Rattle.tx_doc.specs.declared.buffer.Buffer.{Buffer}
use Rattle.tx_units.specs.declared.kinds.Unit.{Unit as DocUnit}
use Rattle.tx_items.specs.declared.attributes.Attrs.{Attrs}
use Rattle.tx_bridge.specs.Entries.{Kept, nothing_kept}
use Rattle.tx_bridge.specs.Names.{EmptyTraces as EmptyKept, EmptyParts}
use Rattle.tx_bridge.specs.PartMoves.{Move}
use Rattle.tx_bridge.specs.PartsKept.{KeptParts}
use Rattle.tx_unit_layout.specs.LaidAts.{LaidAt, laid_at}
use Rattle.tx_unit_layout.specs.declared.shown.Shown.{Shown}
use Rattle.tx_unit_layout.specs.Views.{IsReadable}
use Rattle.tx_view.specs.Laid.{PlacedLists, AreLaid, IsBlank, AreBlank, AreArrived, laid_in, laid_parts_in}
use Rattle.tx_view.proofs.Moved.{blank_reads}
use Rattle.tx_view.proofs.OfParts.{blank_is_laid, none_wide}

more_blank : (us : List DocUnit) (xs : List Shown) (u : DocUnit) (x : Shown) → AreBlank us xs
    → IsBlank u.path [] x → AreBlank (us ++ u ∷ []) (xs ++ x ∷ [])
more_blank [] [] u x h one = (one, tt)
more_blank [] (y ∷ xs) u x h one = absurd h
more_blank (v ∷ us) [] u x h one = absurd h
more_blank (v ∷ us) (y ∷ xs) u x h one = (h.0, more_blank us xs u x h.1 one)

pub blank_next : (us : List DocUnit) (i : ℕ) (u : DocUnit) (all new : List Shown) (x : Shown) → i < length us
    → u ≡ get_or us i u → AreBlank (take i us) all → IsBlank u.path [] x → new ≡ all ++ x ∷ []
    → AreBlank (take (i + 1) us) new
blank_next us i u all new x inside is h one e =
    subst (λ (vs : List DocUnit). AreBlank vs new)
    (sym (take_more us i u inside ∙ ap (λ v. take i us ++ v ∷ []) (sym is)))
    (subst (λ (xs : List Shown). AreBlank (take i us ++ u ∷ []) xs) (sym e) (more_blank (take i us) all u x h one))

pub arrived_many : (old : PlacedLists) (moves : List Move) (j : ℕ) (us : List DocUnit) (xs : List Shown)
    → AreArrived old moves j us xs → length xs ≡ length us
arrived_many old moves j [] [] h = refl
arrived_many old moves j [] (x ∷ xs) h = absurd h
arrived_many old moves j (u ∷ us) [] h = absurd h
arrived_many old moves j (u ∷ us) (x ∷ xs) h = ap suc (arrived_many old moves (j + 1) us xs h.1)

-- ---- buffers of which one has another tree

pub many_with : (buffers : List Buffer) (k : ℕ) (t : WideTree) → length (with_tree buffers k t) ≡ length buffers
many_with buffers k t = by (slice_get buffers k)
  where
    by : (o : Option Buffer)
        → length (option_map_or (λ b. slice_set buffers k (record { name = b.name; tree = t })) o buffers)
        ≡ length buffers
    by None = refl
    by (Some b) = length-set buffers k (record { name = b.name; tree = t })

pub tree_at : (buffers : List Buffer) (k : ℕ) (d : Buffer) → k < length buffers
    → tree_of buffers k ≡ (slice_index_or buffers k d).tree
tree_at buffers k d inside =
    ap (λ o. option_map_or (λ (b : Buffer). b.tree) o (leaf [])) (slice_get-get_or buffers k d inside)

-- ---- where nothing is cached

pub empty_parts_is : (us : List DocUnit) → EmptyParts us ≡ map (λ u. []) us
unfolding EmptyParts
empty_parts_is us = refl

pub empty_is : (us : List DocUnit) → EmptyKept us ≡ nothing_kept us
unfolding EmptyKept
empty_is us = refl

pub blank_laid : (width : ℕ) (us : List DocUnit) (xs : List Shown) → AreBlank us xs
    → AreLaid width (nothing_kept us) (map (λ u. []) us) xs
blank_laid width [] [] h = tt
blank_laid width [] (x ∷ xs) h = absurd h
blank_laid width (u ∷ us) [] h = absurd h
blank_laid width (u ∷ us) (x ∷ xs) h =
    (blank_is_laid width (record { unit = u; trace = None }) [] x h.0, blank_laid width us xs h.1)

pub blank_ats : (us : List DocUnit) (xs : List Shown) → AreBlank us xs
    → laid_parts_in xs ≡ map {A = DocUnit} {B = List LaidAt} (λ u. []) us
blank_ats [] [] h = refl
blank_ats [] (x ∷ xs) h = absurd h
blank_ats (u ∷ us) [] h = absurd h
blank_ats (u ∷ us) (x ∷ xs) h =
    ap (λ ps. map laid_at ps ∷ laid_parts_in xs) (none_wide x.parts h.0.parts)
    ∙ ap (λ lss. [] ∷ lss) (blank_ats us xs h.1)

pub blank_attributes : (us : List DocUnit) (xs : List Shown) → AreBlank us xs
    → laid_in xs ≡ map {A = DocUnit} {B = Option Attrs} (λ u. None) us
blank_attributes [] [] h = refl
blank_attributes [] (x ∷ xs) h = absurd h
blank_attributes (u ∷ us) [] h = absurd h
blank_attributes (u ∷ us) (x ∷ xs) h =
    ap (λ a. a ∷ laid_in xs) h.0.laid ∙ ap (λ bs. None ∷ bs) (blank_attributes us xs h.1)

each_blank_reads : (us : List DocUnit) (xs : List Shown) → AreBlank us xs → AllByRecursion IsReadable xs
each_blank_reads [] [] h = tt
each_blank_reads [] (x ∷ xs) h = absurd h
each_blank_reads (u ∷ us) [] h = absurd h
each_blank_reads (u ∷ us) (x ∷ xs) h = (blank_reads u.path x h.0, each_blank_reads us xs h.1)

pub blank_readable : (us : List DocUnit) (xs : List Shown) → AreBlank us xs → All IsReadable xs
blank_readable us xs h = All-from_recursion IsReadable xs (each_blank_reads us xs h)

-- as many are laid out as there are units
pub as_many_laid : (width : ℕ) (es : Kept) (pss : List KeptParts) (xs : List Shown) → AreLaid width es pss xs
    → length (laid_in xs) ≡ length es
as_many_laid width [] [] [] h = refl
as_many_laid width [] [] (x ∷ xs) h = absurd h
as_many_laid width [] (ks ∷ pss) xs h = absurd h
as_many_laid width (e ∷ es) [] xs h = absurd h
as_many_laid width (e ∷ es) (ks ∷ pss) [] h = absurd h
as_many_laid width (e ∷ es) (ks ∷ pss) (x ∷ xs) h = ap suc (as_many_laid width es pss xs h.1)
