-- A byte makes what was begun larger by so much, and it never grows smaller.
use Rattle.std.proofs.Common.{◌≡◌, ℕ, ◌+◌, ◌<◌, ◌≤◌, Bool, true, false, ltb, ◌&&◌, List, [], ◌∷◌, ◌++◌, length}
use Rattle.std.proofs.Common.{is_some, Option, Some, None, refl, sym, ap, subst, ◌∙◌, length-append, arith}
use Rattle.tx_tree.specs.TextScan.{is_text, begins_text}
use Rattle.tx_tree.specs.WideTree.{WideTree, leaf, size_of}
use Rattle.tx_tree.proofs.Children.{total_size-append}
use Rattle.tx_scm.specs.declared.kinds.Kind.{Kind}
use Rattle.tx_scm.specs.declared.kinds.Kind.TheVariants.{White, Opens, Closes, Quote, Backslash, Letter}
use Rattle.tx_scm.specs.Kinds.{kind_of}
use Rattle.tx_scm.specs.Machine.{Open, State, Bounds, the_limits, within, between, opened, naming, texting, escaping}
use Rattle.tx_scm.specs.Machine.{whole, failed, put_tree, only_if, node_of, closed, with_bracket, lengthened}
use Rattle.tx_scm.specs.Machine.{step_between}
use Rattle.tx_scm.specs.Machine.{step_opened, step_naming, step_texting, step_escaping, step_whole, step, completes}
use Rattle.tx_scm.specs.Machine.{reads}
use Rattle.tx_scm.specs.Sizes.{opens_size, IsSized, begun_by, texted_by, grown_by}
use Rattle.tx_scm.specs.States.{standing}
use Rattle.tx_scm.proofs.Exact.{found}

module _ (n : ℕ) where
  only_sized : (c : Bool) (s : State) → IsSized n s → IsSized n (only_if c s)
  only_sized true s h = h
  only_sized false s h = tt

  pub put_sized : (t : WideTree) (opens : List Open) → n ≡ size_of t + opens_size opens → IsSized n (put_tree t opens)
  put_sized t [] h = omega (arith, h)
  put_sized t (o ∷ opens) h = omega (arith, h, total_size-append o.children (t ∷ []))

module _ (bounds : Bounds) (n : ℕ) where
  closed_sized : (opens : List Open) → n ≡ opens_size opens → IsSized (n + 0) (closed bounds opens)
  closed_sized [] h = tt
  closed_sized (o ∷ opens) h =
      only_sized (n + 0) (bounds.keeps (node_of o)) (put_tree (node_of o) opens)
      (put_sized (n + 0) (node_of o) opens (omega (arith, h)))

  between_sized : (k : Kind) (opens : List Open) → n ≡ opens_size opens
      → IsSized (n + begun_by k) (step_between bounds opens k)
  unfolding step_between
  between_sized White opens h = omega (arith, h)
  between_sized Opens opens h = only_sized (n + 1) (bounds.room opens) (opened opens) (omega (arith, h))
  between_sized Quote opens h = only_sized (n + 1) (bounds.room opens) (texting [] opens) (omega (arith, h))
  between_sized Closes opens h = closed_sized opens h
  between_sized _ opens h = tt

  opened_sized : (k : Kind) (b : ℕ) (opens : List Open) → n ≡ 1 + opens_size opens
      → IsSized (n + 0) (step_opened opens k b)
  unfolding step_opened
  opened_sized White b opens h = omega (arith, h)
  opened_sized Letter b opens h = omega (arith, h)
  opened_sized _ b opens h = tt

  naming_sized : (k : Kind) (b : ℕ) (label : List ℕ) (opens : List Open) → n ≡ 1 + opens_size opens
      → IsSized (n + begun_by k) (step_naming bounds label opens k b)
  unfolding step_naming
  naming_sized Letter b label opens h =
      only_sized (n + 0) (ltb (length label) 64) (naming (label ++ b ∷ []) opens) (omega (arith, h))
  naming_sized k b label opens h = between_sized k (with_bracket label opens) (omega (arith, h))

  lengthened_sized : (text : List ℕ) (b : ℕ) (opens : List Open) → n ≡ 1 + length text + opens_size opens
      → IsSized (n + 1) (lengthened bounds text opens b)
  lengthened_sized text b opens h =
      only_sized (n + 1) (bounds.longer text && begins_text (text ++ b ∷ [])) (texting (text ++ b ∷ []) opens)
      (omega (arith, h, length-append text (b ∷ [])))

  texting_sized : (k : Kind) (b : ℕ) (text : List ℕ) (opens : List Open) → n ≡ 1 + length text + opens_size opens
      → IsSized (n + texted_by k) (step_texting bounds text opens k b)
  unfolding step_texting
  texting_sized Quote b text opens h =
      only_sized (n + 0) (is_text text) (put_tree (leaf text) opens)
      (put_sized (n + 0) (leaf text) opens (omega (arith, h)))
  texting_sized Backslash b text opens h = omega (arith, h)
  texting_sized _ b text opens h = lengthened_sized text b opens h

  escaping_sized : (k : Kind) (b : ℕ) (text : List ℕ) (opens : List Open) → n ≡ 1 + length text + opens_size opens
      → IsSized (n + 1) (step_escaping bounds text opens k b)
  unfolding step_escaping
  escaping_sized Quote b text opens h = lengthened_sized text b opens h
  escaping_sized Backslash b text opens h = lengthened_sized text b opens h
  escaping_sized _ b text opens h = tt

  whole_sized : (k : Kind) (t : WideTree) → n ≡ size_of t → IsSized (n + 0) (step_whole t k)
  unfolding step_whole
  whole_sized White t h = omega (arith, h)
  whole_sized _ t h = tt

  step_sized : (s : State) (k : Kind) (b : ℕ) → IsSized n s → IsSized (n + grown_by s k) (step bounds s k b)
  step_sized (between opens) k b h = between_sized k opens h
  step_sized (opened opens) k b h = opened_sized k b opens h
  step_sized (naming label opens) k b h = naming_sized k b label opens h
  step_sized (texting text opens) k b h = texting_sized k b text opens h
  step_sized (escaping text opens) k b h = escaping_sized k b text opens h
  step_sized (whole t) k b h = whole_sized k t h
  step_sized failed k b h = tt

-- what was begun is a part of the tree that it becomes
end_sized : (s : State) (t : WideTree) (n : ℕ) → IsSized n s → completes (within the_limits) s [] ≡ Some t
    → n ≤ size_of t
end_sized (whole u) t n h e = let same : u ≡ t = cc in omega (arith, h, ap size_of same)
end_sized _ t n h e = absurd cc

never_smaller : (bytes : List ℕ) (s : State) (t : WideTree) (n : ℕ) → IsSized n s
    → completes (within the_limits) s bytes ≡ Some t → n ≤ size_of t
never_smaller [] s t n h e = end_sized s t n h e
never_smaller (b ∷ bytes) s t n h e =
    omega (
      arith,
      never_smaller bytes (step (within the_limits) s (kind_of b) b) t (n + grown_by s (kind_of b))
          (step_sized (within the_limits) n s (kind_of b) b h) e,
    )

-- where what was begun passes the limit, no tree is read
pub too_large : (bytes x : List ℕ) (s : State) (n : ℕ) → IsSized n s → 8000000 < n
    → reads (between []) bytes ≡ reads s x → None ≡ reads (between []) bytes
unfolding reads
too_large bytes x s n sized past same =
    elim (reads (between []) bytes) as (λ r. reads (between []) bytes ≡ r → None ≡ r) [
      | None ↦ λ e. refl
      | (Some t) ↦ λ e.
          absurd (omega (arith, (found bytes t (sym e)).1.size, never_smaller x s t n sized (sym same ∙ e), past))
    ] refl

-- ---- after a token

-- a closing bracket makes nothing larger
pub closes_sized : (n m : ℕ) (w : Option WideTree) (opens : List Open) (t : State) → is_some w ≡ false → m ≡ n
    → t ≡ step_between (within the_limits) opens Closes → IsSized n (standing w opens) → IsSized m t
closes_sized n m None opens t e f g h =
    rw (f, g) (subst (λ n. IsSized n (step_between (within the_limits) opens Closes)) (omega arith)
    (between_sized (within the_limits) n Closes opens h))
closes_sized n m (Some u) opens t e f g h = absurd cc

-- a string is as large as its leaf
pub string_sized : (n m : ℕ) (w : Option WideTree) (opens : List Open) (text : List ℕ) (t : State) → w ≡ None
    → m ≡ n + (1 + length text) → t ≡ put_tree (leaf text) opens → IsSized n (standing w opens) → IsSized m t
string_sized n m None opens text t w e f h =
    subst (IsSized m) (sym f) (put_sized m (leaf text) opens (omega (arith, e, h)))
string_sized n m (Some u) opens text t w e f h = absurd cc
