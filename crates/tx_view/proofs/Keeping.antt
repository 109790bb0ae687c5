-- The lines of units, and of their parts, remain theirs.
use Rattle.std.proofs.Common.{◌≡◌, ℕ, zero, suc, List, [], ◌∷◌, ◌++◌, length, take, drop, map, Bool, true, false}
use Rattle.std.proofs.Common.{Some, inl, refl, ap, sym, subst, ◌∙◌, arith}
use Rattle.std.proofs.lemmas.List.{length-map}
use Rattle.std.proofs.lemmas.List.Elements.{All-nil, All-from_recursion, recursion_from_All}
use Rattle.std.proofs.lemmas.Option.{same_Some}
use Rattle.std.specs.List.{All, AllByRecursion, IsDistinct}
use Rattle.std.specs.Prelude.{slice_get}
use Rattle.tx_bridge.proofs.Taking.{heads}
use Rattle.tx_units.specs.declared.kinds.Unit.{Unit as DocUnit}
use Rattle.tx_items.specs.declared.attributes.Attrs.{Attrs}
use Rattle.tx_view_form.specs.Outcomes.{Moment, beginning, behind}
use Rattle.tx_view_form.specs.Started.{attributes_of}
use Rattle.tx_part_layout.specs.LaidParts.{IsLaidPart}
use Rattle.tx_part_layout.specs.declared.laid.PlacedPart.{PlacedPart}
use Rattle.tx_bridge.specs.Bridged.{Bridged}
use Rattle.tx_bridge.specs.Reached.{reached_from}
use Rattle.tx_bridge.specs.Entries.{Entry, Kept, units_of, fresh_from, outcome_of}
use Rattle.tx_bridge.specs.PartsKept.{KeptParts, fresh_parts, fresh_parts_from, part_flags_from, PartsStay}
use Rattle.tx_unit_layout.specs.LaidAts.{laid_at, laid_ats}
use Rattle.tx_unit_layout.specs.LaidUnits.{IsLaid, WasLaid, AreLaidParts, Stays}
use Rattle.tx_unit_layout.specs.declared.shown.Shown.{Shown}
use Rattle.tx_unit_layout.specs.Views.{IsReadable}
use Rattle.tx_view.specs.Costs.{entry_at}
use Rattle.tx_view.specs.Laid.{AreLaid, WereLaid, laid_in, laid_parts_in, unlaid, without, dropped, dropped_by}
use Rattle.tx_view.specs.Laid.{without_parts}
use Rattle.tx_view.specs.Stores.{attributes_from, laid_parts_from}
use Rattle.tx_view.specs.Units.{IsBelow}
use Rattle.tx_view.proofs.Renewed.{reached_many, same_many}

-- an entry whose unit has no flag is unchanged
abbrev pub Stay : List Bool → Kept → Kept → Type 0
Stay fs old new = (i : ℕ) → slice_get fs i ≡ Some false → slice_get new i ≡ slice_get old i

-- the parts of a unit without a flag are unchanged
abbrev pub SameParts : List Bool → List KeptParts → List KeptParts → Type 0
SameParts fs old new = (i : ℕ) → slice_get fs i ≡ Some false → slice_get new i ≡ slice_get old i

-- ---- as many

pub laid_many : (width : ℕ) (kept : Kept) (pss : List KeptParts) (xs : List Shown) → AreLaid width kept pss xs
    → length xs ≡ length kept
laid_many width [] [] [] h = refl
laid_many width [] [] (x ∷ xs) h = absurd h
laid_many width [] (ks ∷ pss) xs h = absurd h
laid_many width (e ∷ es) [] xs h = absurd h
laid_many width (e ∷ es) (ks ∷ pss) [] h = absurd h
laid_many width (e ∷ es) (ks ∷ pss) (x ∷ xs) h = ap suc (laid_many width es pss xs h.1)

pub parts_many : (width : ℕ) (kept : Kept) (pss : List KeptParts) (xs : List Shown) → AreLaid width kept pss xs
    → length pss ≡ length kept
parts_many width [] [] [] h = refl
parts_many width [] [] (x ∷ xs) h = absurd h
parts_many width [] (ks ∷ pss) xs h = absurd h
parts_many width (e ∷ es) [] xs h = absurd h
parts_many width (e ∷ es) (ks ∷ pss) [] h = absurd h
parts_many width (e ∷ es) (ks ∷ pss) (x ∷ xs) h = ap suc (parts_many width es pss xs h.1)

pub fresh_many : (m : Moment) (us : List DocUnit) → length (fresh_parts_from m us) ≡ length us
fresh_many m [] = refl
fresh_many m (u ∷ us) = ap suc (fresh_many (behind m (outcome_of m u)) us)

pub flags_many : (m : Moment) (kept : Kept) (pss : List KeptParts) → length pss ≡ length kept
    → length (part_flags_from m kept pss) ≡ length kept
flags_many m [] [] many = refl
flags_many m [] (ks ∷ pss) many = absurd (omega (arith, many))
flags_many m (e ∷ es) [] many = absurd (omega (arith, many))
flags_many m (e ∷ es) (ks ∷ pss) many =
    ap suc (flags_many (behind m (outcome_of m e.unit)) es pss (omega (arith, many)))

-- ---- after an evaluation

one_were : (width : ℕ) (f : Bool) (d e : Entry) (ks ls : KeptParts) (fs : List Bool) (x : Shown)
    → IsLaid width d ks ks x → e.unit ≡ d.unit → (f ≡ false → e ≡ d) → (f ≡ false → ls ≡ ks) → Stays ks ls fs
    → WasLaid width e ls fs (unlaid f x)
one_were width true d e ks ls fs x h unit same still stays = record {
  held = ks;
  stays = stays;
  laid = record {
    path = h.path ∙ ap (λ u. u.path) (sym unit);
    laid = λ a none. cc;
    by_parts = λ a none. cc;
    of_kept = λ a none. cc;
    same = λ a none. cc;
    parts = h.parts;
  };
}
one_were width false d e ks ls fs x h unit same still stays = record {
  held = ks;
  stays = stays;
  laid =
      subst (λ (k : Entry). IsLaid width k ls ks (unlaid false x)) (sym (same refl))
      (subst (λ (ps : KeptParts). IsLaid width d ps ks (unlaid false x)) (sym (still refl)) h);
}

none_were : (width : ℕ) (fs : List Bool) (new : Kept) (news : List KeptParts) (fss : List (List Bool))
    → length new ≡ 0 → length news ≡ 0 → length fss ≡ 0 → WereLaid width new news fss (without fs [])
none_were width [] [] [] [] a b c = tt
none_were width (f ∷ fs) [] [] [] a b c = tt
none_were width fs (e ∷ new) news fss a b c = absurd (omega (arith, a))
none_were width fs [] (ks ∷ news) fss a b c = absurd (omega (arith, b))
none_were width fs [] [] (gs ∷ fss) a b c = absurd (omega (arith, c))

pub were_laid : (width : ℕ) (fs : List Bool) (old new : Kept) (olds news : List KeptParts) (fss : List (List Bool))
    (xs : List Shown) → AreLaid width old olds xs → units_of new ≡ units_of old → length fs ≡ length xs
    → length new ≡ length xs → length news ≡ length xs → length fss ≡ length xs → Stay fs old new
    → SameParts fs olds news → PartsStay olds news fss → WereLaid width new news fss (without fs xs)
were_laid width fs [] new [] news fss [] h same flags many parts marks stay still stays =
    none_were width fs new news fss many parts marks
were_laid width (f ∷ fs) (d ∷ old) (e ∷ new) (ks ∷ olds) (ls ∷ news) (gs ∷ fss) (x ∷ xs) h same flags many parts marks
    stay still stays = (
      one_were width f d e ks ls gs x h.0 (cc) (λ off. same_Some e d (stay 0 (ap Some off)))
          (λ off. same_Some ls ks (still 0 (ap Some off)))
          (λ k s there off. stays 0 k ks ls gs s refl refl refl there off),
      were_laid width fs old new olds news fss xs h.1 (cc) (omega (arith, flags)) (omega (arith, many))
          (omega (arith, parts)) (omega (arith, marks)) (λ i. stay (suc i)) (λ i. still (suc i)) (λ i. stays (suc i)),
    )
were_laid width fs [] new [] news fss (x ∷ xs) h same flags many parts marks stay still stays = absurd h
were_laid width fs [] new (ks ∷ olds) news fss xs h same flags many parts marks stay still stays = absurd h
were_laid width fs (d ∷ old) new [] news fss xs h same flags many parts marks stay still stays = absurd h
were_laid width fs (d ∷ old) new (ks ∷ olds) news fss [] h same flags many parts marks stay still stays = absurd h
were_laid width [] (d ∷ old) new (ks ∷ olds) news fss (x ∷ xs) h same flags many parts marks stay still stays =
    absurd (omega (arith, flags))
were_laid width (f ∷ fs) (d ∷ old) [] (ks ∷ olds) news fss (x ∷ xs) h same flags many parts marks stay still stays =
    absurd (omega (arith, many))
were_laid width (f ∷ fs) (d ∷ old) (e ∷ new) (ks ∷ olds) [] fss (x ∷ xs) h same flags many parts marks stay still
    stays = absurd (omega (arith, parts))
were_laid width (f ∷ fs) (d ∷ old) (e ∷ new) (ks ∷ olds) (ls ∷ news) [] (x ∷ xs) h same flags many parts marks stay
    still stays = absurd (omega (arith, marks))

pub behind_evaluation : (width : ℕ) (old new : Bridged) (xs ys : List Shown) → AreLaid width old.kept old.parts xs
    → units_of new.kept ≡ units_of old.kept → new.reached ≡ reached_from beginning old.kept old.parts
    → new.parts ≡ fresh_parts_from beginning (units_of old.kept)
    → new.part_flags ≡ part_flags_from beginning old.kept old.parts → Stay new.reached old.kept new.kept
    → SameParts new.reached old.parts new.parts → PartsStay old.parts new.parts new.part_flags
    → ys ≡ without new.reached xs → WereLaid width new.kept new.parts new.part_flags ys
behind_evaluation width old new xs ys h same reached parts marks stay still stays is =
    let many : length xs ≡ length old.kept = laid_many width old.kept old.parts xs h in
    let units : length (units_of old.kept) ≡ length old.kept = length-map old.kept (λ (k : Entry). k.unit) in
    subst (λ (zs : List Shown). WereLaid width new.kept new.parts new.part_flags zs) (sym is)
    (were_laid width new.reached old.kept new.kept old.parts new.parts new.part_flags xs h same
    (omega (arith, many, ap length reached, reached_many beginning old.kept old.parts))
    (omega (arith, many, same_many old.kept new.kept same))
    (omega (arith, many, units, ap length parts, fresh_many beginning (units_of old.kept)))
    (omega (
      arith,
      many,
      ap length marks,
      flags_many beginning old.kept old.parts
          (parts_many width old.kept old.parts xs h),
    )) stay still stays)

-- ---- after a failure

mixed_many : (n : ℕ) (ps qs : List KeptParts) → length ps ≡ length qs → length (take n ps ++ drop n qs) ≡ length qs
mixed_many zero ps qs many = refl
mixed_many (suc n) [] [] many = refl
mixed_many (suc n) [] (q ∷ qs) many = absurd (omega (arith, many))
mixed_many (suc n) (p ∷ ps) [] many = absurd (omega (arith, many))
mixed_many (suc n) (p ∷ ps) (q ∷ qs) many = ap suc (mixed_many n ps qs (omega (arith, many)))

nothing_of : (width : ℕ) (ks : KeptParts) → AreLaidParts width ks []
unfolding IsDistinct
nothing_of width ks =
    record { each = All-nil (λ (p : PlacedPart). IsLaidPart width p.laid.value); distinct = tt; of_kept = inl refl }

one_dropped : (width : ℕ) (d e : Entry) (ks held ls : KeptParts) (x : Shown) → IsLaid width d ks held x
    → e.unit ≡ d.unit → IsLaid width e ls ls (dropped x)
one_dropped width d e ks held ls x h unit = record {
  path = h.path ∙ ap (λ u. u.path) (sym unit);
  laid = λ a none. cc;
  by_parts = λ a none. cc;
  of_kept = λ a none. cc;
  same = λ a none. refl;
  parts = nothing_of width ls;
}

pub laid_dropped : (width : ℕ) (old new : Kept) (olds news : List KeptParts) (xs : List Shown)
    → AreLaid width old olds xs → units_of new ≡ units_of old → length news ≡ length xs
    → AreLaid width new news (map dropped xs)
laid_dropped width [] [] [] [] [] h same many = tt
laid_dropped width (d ∷ old) (e ∷ new) (ks ∷ olds) (ls ∷ news) (x ∷ xs) h same many =
    (one_dropped width d e ks ks ls x h.0 (cc), laid_dropped width old new olds news xs h.1 (cc) (omega (arith, many)))
laid_dropped width [] new [] news (x ∷ xs) h same many = absurd h
laid_dropped width [] new (ks ∷ olds) news xs h same many = absurd h
laid_dropped width (d ∷ old) new [] news xs h same many = absurd h
laid_dropped width (d ∷ old) new (ks ∷ olds) news [] h same many = absurd h
laid_dropped width [] (e ∷ new) [] news [] h same many = cc
laid_dropped width [] [] [] (ls ∷ news) [] h same many = absurd (omega (arith, many))
laid_dropped width (d ∷ old) [] (ks ∷ olds) news (x ∷ xs) h same many = cc
laid_dropped width (d ∷ old) (e ∷ new) (ks ∷ olds) [] (x ∷ xs) h same many = absurd (omega (arith, many))

pub behind_refusal : (width : ℕ) (old new : Bridged) (xs ys : List Shown) (n : ℕ) → AreLaid width old.kept old.parts xs
    → units_of new.kept ≡ units_of old.kept
    → new.parts ≡ take n (fresh_parts_from beginning (units_of old.kept)) ++ drop n old.parts → ys ≡ map dropped xs
    → AreLaid width new.kept new.parts ys
behind_refusal width old new xs ys n h same parts is =
    let units : length (units_of old.kept) ≡ length old.kept = length-map old.kept (λ (k : Entry). k.unit) in
    let as_many : length old.parts ≡ length old.kept = parts_many width old.kept old.parts xs h in
    subst (λ (zs : List Shown). AreLaid width new.kept new.parts zs) (sym is)
    (laid_dropped width old.kept new.kept old.parts new.parts xs h same
    (omega (
      arith,
      laid_many width old.kept old.parts xs h,
      as_many,
      ap length parts,
      mixed_many n (fresh_parts_from beginning (units_of old.kept)) old.parts
          (omega (arith, units, as_many, fresh_many beginning (units_of old.kept))),
    )))

one_left : (width : ℕ) (e : Entry) (ks held : KeptParts) (ps : List PlacedPart) (x : Shown) → IsLaid width e ks held x
    → x.parts ≡ ps → IsLaid width e ks ks (dropped_by ps x)
one_left width e ks held [] x h none = record {
  path = h.path;
  laid = h.laid;
  by_parts = h.by_parts;
  of_kept = h.of_kept;
  same = λ a is. refl;
  parts = subst (λ (ps : List PlacedPart). AreLaidParts width ks ps) (sym none) (nothing_of width ks);
}
one_left width e ks held (p ∷ ps) x h some = one_dropped width e e ks held ks x h refl

pub laid_left : (width : ℕ) (kept : Kept) (pss : List KeptParts) (fss : List (List Bool)) (xs : List Shown)
    → WereLaid width kept pss fss xs → AreLaid width kept pss (without_parts xs)
laid_left width [] [] [] [] h = tt
laid_left width (e ∷ es) (ks ∷ pss) (fs ∷ fss) (x ∷ xs) h =
    (one_left width e ks h.0.held x.parts x h.0.laid refl, laid_left width es pss fss xs h.1)
laid_left width [] [] [] (x ∷ xs) h = absurd h
laid_left width [] [] (fs ∷ fss) xs h = absurd h
laid_left width [] (ks ∷ pss) fss xs h = absurd h
laid_left width (e ∷ es) [] fss xs h = absurd h
laid_left width (e ∷ es) (ks ∷ pss) [] xs h = absurd h
laid_left width (e ∷ es) (ks ∷ pss) (fs ∷ fss) [] h = absurd h

-- units that are laid out are laid out also without the lines of parts
pub laid_without_parts : (width : ℕ) (kept : Kept) (pss : List KeptParts) (xs : List Shown) → AreLaid width kept pss xs
    → AreLaid width kept pss (without_parts xs)
laid_without_parts width [] [] [] h = tt
laid_without_parts width (e ∷ es) (ks ∷ pss) (x ∷ xs) h =
    (one_left width e ks ks x.parts x h.0 refl, laid_without_parts width es pss xs h.1)
laid_without_parts width [] [] (x ∷ xs) h = absurd h
laid_without_parts width [] (ks ∷ pss) xs h = absurd h
laid_without_parts width (e ∷ es) [] xs h = absurd h
laid_without_parts width (e ∷ es) (ks ∷ pss) [] h = absurd h

-- ---- all are laid out

pub at_rest : (width : ℕ) (m : Moment) (kept : Kept) (pss : List KeptParts) (fss : List (List Bool))
    (xs : List Shown) → WereLaid width kept pss fss xs → laid_in xs ≡ attributes_from m (units_of kept)
    → AreLaid width kept pss xs
at_rest width m [] [] [] [] h is = tt
at_rest width m (e ∷ es) (ks ∷ pss) (fs ∷ fss) (x ∷ xs) h is =
    let next : Moment = behind m (outcome_of m e.unit) in
    let two = heads x.laid (Some (attributes_of m.env)) (laid_in xs) (attributes_from next (units_of es)) is in (
      subst (λ (ls : KeptParts). IsLaid width e ks ls x) (sym (h.0.laid.same (attributes_of m.env) two.0)) h.0.laid,
      at_rest width next es pss fss xs h.1 two.1,
    )
at_rest width m [] [] [] (x ∷ xs) h is = absurd h
at_rest width m [] [] (fs ∷ fss) xs h is = absurd h
at_rest width m [] (ks ∷ pss) fss xs h is = absurd h
at_rest width m (e ∷ es) [] fss xs h is = absurd h
at_rest width m (e ∷ es) (ks ∷ pss) [] xs h is = absurd h
at_rest width m (e ∷ es) (ks ∷ pss) (fs ∷ fss) [] h is = absurd h

-- the layout of their parts is what making it from nothing leaves
pub parts_laid : (width : ℕ) (m : Moment) (kept : Kept) (pss : List KeptParts) (xs : List Shown)
    → AreLaid width kept pss xs → kept ≡ fresh_from m (units_of kept) → pss ≡ fresh_parts_from m (units_of kept)
    → laid_in xs ≡ attributes_from m (units_of kept) → laid_parts_in xs ≡ laid_parts_from m (units_of kept)
parts_laid width m [] [] [] laid fresh parts is = refl
parts_laid width m (e ∷ es) (ks ∷ pss) (x ∷ xs) laid fresh parts is =
    let next : Moment = behind m (outcome_of m e.unit) in
    let a : Attrs = attributes_of m.env in
    let one = heads e (entry_at m e.unit) es (fresh_from next (units_of es)) fresh in
    let two = heads x.laid (Some a) (laid_in xs) (attributes_from next (units_of es)) is in
    let three = heads ks (fresh_parts m e.unit) pss (fresh_parts_from next (units_of es)) parts in
    let here : map laid_at x.parts ≡ laid_ats a (entry_at m e.unit) (fresh_parts m e.unit) =
    laid.0.by_parts a two.0 ∙ ap (λ (k : Entry). laid_ats a k ks) one.0
    ∙ ap (λ (ls : KeptParts). laid_ats a (entry_at m e.unit) ls) three.0 in
    ap (λ ls. ls ∷ laid_parts_in xs) here
    ∙ ap (λ lss. laid_ats a (entry_at m e.unit) (fresh_parts m e.unit) ∷ lss)
    (parts_laid width next es pss xs laid.1 one.1 three.1 two.1)
parts_laid width m [] [] (x ∷ xs) laid fresh parts is = absurd laid
parts_laid width m [] (ks ∷ pss) xs laid fresh parts is = absurd laid
parts_laid width m (e ∷ es) [] xs laid fresh parts is = absurd laid
parts_laid width m (e ∷ es) (ks ∷ pss) [] laid fresh parts is = absurd laid

-- their parts know how many lines are above them
below_each : (m : Moment) (us : List DocUnit) (xs : List Shown) → laid_in xs ≡ attributes_from m us
    → AllByRecursion IsReadable xs → AllByRecursion IsBelow xs
below_each m us [] is h = tt
below_each m [] (x ∷ xs) is h = cc
below_each m (u ∷ us) (x ∷ xs) is h =
    let next : Moment = behind m (outcome_of m u) in
    let two = heads x.laid (Some (attributes_of m.env)) (laid_in xs) (attributes_from next us) is in
    (h.0.below (attributes_of m.env) two.0, below_each next us xs two.1 h.1)

pub all_below : (us : List DocUnit) (xs : List Shown) → laid_in xs ≡ attributes_from beginning us → All IsReadable xs
    → All IsBelow xs
all_below us xs is h =
    All-from_recursion IsBelow xs (below_each beginning us xs is (recursion_from_All IsReadable xs h))
