-- Parts in their places are the same where what they have is, whatever the proofs of what is said in brief.
use Rattle.std.proofs.Common.{◌≡◌, ℕ, List, Bool, true, false, length, not, ◌==◌, ap, ◌∙◌}
use Rattle.std.proofs.Common.{Global}
use Rattle.std.specs.declared.rc.Rc.{Rc}
use mathlib.Core.Path.{fun_ext}
use Rattle.std.specs.Coded.{Coded-set, coded_ℕ, coded_bool}
use Rattle.std.specs.List.{All}
use Rattle.tx_items.specs.contracts.attributes.Attrs as one_attrs
use Rattle.tx_layout.specs.Paging.{Unmarked}
use Rattle.tx_part_layout.specs.declared.laid.Brief.{Brief}
use Rattle.tx_part_layout.specs.declared.laid.LaidPart.{LaidPart}
use Rattle.tx_part_layout.specs.declared.laid.PlacedPart.{PlacedPart}

module _ (path : List ℕ) (above : ℕ) (laid : Rc LaidPart Global) (brief : Brief)
    (b c : brief.before ≡ laid.value.before) (p q : brief.plain ≡ true → laid.value.after ≡ laid.value.before)
    (r s : brief.rows ≡ length laid.value.lines) (o u : brief.some ≡ not (length laid.value.paragraphs.items == 0))
    (k l : brief.blank ≡ laid.value.blank) (f g : brief.faulty ≡ not (length laid.value.errors.items == 0))
    (m n : brief.marked ≡ false → All Unmarked laid.value.lines) where
  abbrev with_these : brief.before ≡ laid.value.before → (brief.plain ≡ true → laid.value.after ≡ laid.value.before)
      → brief.rows ≡ length laid.value.lines → brief.some ≡ not (length laid.value.paragraphs.items == 0)
      → brief.blank ≡ laid.value.blank → brief.faulty ≡ not (length laid.value.errors.items == 0)
      → (brief.marked ≡ false → All Unmarked laid.value.lines) → PlacedPart
  with_these v w x y z i j =
      record {
        path = path;
        above = above;
        laid = laid;
        brief = brief;
        before = v;
        plain = w;
        rows = x;
        some = y;
        blank = z;
        faulty = i;
        marked = j;
      }

  pub same_part : with_these b p r o k f m ≡ with_these c q s u l g n
  same_part =
      ap (λ v. with_these v p r o k f m) (Coded-set one_attrs.the_row.coded _ _ b c)
      ∙ ap (λ w. with_these c w r o k f m) (fun_ext (λ h. Coded-set one_attrs.the_row.coded _ _ (p h) (q h)))
      ∙ ap (λ x. with_these c q x o k f m) (Coded-set coded_ℕ _ _ r s)
      ∙ ap (λ y. with_these c q s y k f m) (Coded-set coded_bool _ _ o u)
      ∙ ap (λ z. with_these c q s u z f m) (Coded-set coded_bool _ _ k l)
      ∙ ap (λ i. with_these c q s u l i m) (Coded-set coded_bool _ _ f g)
      ∙ ap (λ j. with_these c q s u l g j)
      (fun_ext (λ h. fun_ext (λ i. fun_ext (λ d. fun_ext (λ lt. Coded-set coded_bool _ _ (m h i d lt) (n h i d lt))))))
