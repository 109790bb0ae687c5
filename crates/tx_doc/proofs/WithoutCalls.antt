-- Trees without calls: measures, well-formedness, and that nothing changes a second time.
use Rattle.std.proofs.Common.{◌≡◌, ℕ, ◌≤◌, Bool, true, false, List, [], ◌∷◌}
use Rattle.std.proofs.Common.{refl, ap, ◌∙◌, arith}
use Rattle.std.specs.Prelude.{◌&&◌, if◌then◌else◌}
use Rattle.std.specs.List.{AllByRecursion, list_all}
use Rattle.std.proofs.lemmas.Bool.{and_parts, leb-true}
use Rattle.tx_tree.specs.Labels.{IsLabel, is_label_byte}
use Rattle.tx_tree.specs.Limits.{IsWellFormed, AreWellFormed, IsWithinLimits}
use Rattle.tx_tree.specs.WideTree.{WideTree, Forest, leaf, node, nil, cons, size_of, total_size, depth_of}
use Rattle.tx_tree.specs.WideTree.{deepest, arity_of, widest, count, text_length_of, longest_text}
use Rattle.tx_doc.specs.Modern.{is_call, is_label, called, without_calls, all_without_calls, is_old, modern}

-- ---- labels

each_byte : (bytes : List ℕ) → list_all is_label_byte bytes ≡ true
    → AllByRecursion (λ b. is_label_byte b ≡ true) bytes
each_byte [] e = tt
each_byte (b ∷ bytes) e = let p = and_parts _ _ e in (p.0, each_byte bytes p.1)

pub label_by : (bytes : List ℕ) → is_label bytes ≡ true → IsLabel bytes
label_by bytes e =
    let p = and_parts _ _ e in
    let q = and_parts _ _ p.0 in
    record { each = each_byte bytes p.1; some = leb-true _ _ q.0; short = leb-true _ _ q.1 }

-- ---- one node

by_test : (P : WideTree → Type 0) (b : Bool) (x y : WideTree) → (b ≡ true → P x) → (b ≡ false → P y)
    → P (if b then x else y)
by_test P true x y f g = f refl
by_test P false x y f g = g refl

-- what holds of a node holds without its call, if it goes on to the node that a call names
called_holds : (P : WideTree → Type 0)
    → ((l text : List ℕ) (ts : Forest) → is_label text ≡ true → P (node l (cons (leaf text) ts)) → P (node text ts))
    → (l : List ℕ) (ts : Forest) → P (node l ts)
    → P (called l ts)
called_holds P f l nil h = h
called_holds P f l (cons (node m us) ts) h = h
called_holds P f l (cons (leaf text) ts) h =
    by_test P (is_call l && is_label text) (called text ts) (node l (cons (leaf text) ts))
    (λ e. called_holds P f text ts (f l text ts (and_parts _ _ e).1 h))
    (λ e. h)

-- ---- no measure grows

pub record IsNoMore (s t : WideTree) : Type 0 where
  pub size : size_of s ≤ size_of t
  pub depth : depth_of s ≤ depth_of t
  pub arity : arity_of s ≤ arity_of t
  pub text : text_length_of s ≤ text_length_of t

record AreNoMore (ss ts : Forest) : Type 0 where
  size : total_size ss ≤ total_size ts
  depth : deepest ss ≤ deepest ts
  arity : widest ss ≤ widest ts
  text : longest_text ss ≤ longest_text ts
  many : count ss ≡ count ts

less_called : (t : WideTree) (l text : List ℕ) (ts : Forest) → is_label text ≡ true
    → IsNoMore (node l (cons (leaf text) ts)) t
    → IsNoMore (node text ts) t
less_called t l text ts e h =
    record {
      size = omega (arith, h.size);
      depth = omega (arith, h.depth);
      arity = omega (arith, h.arity);
      text = omega (arith, h.text);
    }

mutual
  pub no_more : (t : WideTree) → IsNoMore (without_calls t) t
  no_more (leaf text) =
      record { size = omega arith; depth = omega arith; arity = omega arith; text = omega arith }
  no_more (node l ts) =
      let h = are_no_more ts in
      called_holds (λ u. IsNoMore u (node l ts)) (less_called (node l ts)) l (all_without_calls ts)
      (record {
        size = omega (arith, h.size);
        depth = omega (arith, h.depth);
        arity = omega (arith, h.arity, h.many);
        text = omega (arith, h.text);
      })

  are_no_more : (ts : Forest) → AreNoMore (all_without_calls ts) ts
  are_no_more nil =
      record { size = omega arith; depth = omega arith; arity = omega arith; text = omega arith; many = refl }
  are_no_more (cons t ts) =
      let one = no_more t in
      let more = are_no_more ts in
      record {
        size = omega (arith, one.size, more.size);
        depth = omega (arith, one.depth, more.depth);
        arity = omega (arith, one.arity, more.arity);
        text = omega (arith, one.text, more.text);
        many = omega (arith, more.many);
      }

pub within_still : (t : WideTree) → IsWithinLimits t → IsWithinLimits (without_calls t)
within_still t h =
    let less = no_more t in
    record {
      text = omega (arith, h.text, less.text);
      arity = omega (arith, h.arity, less.arity);
      depth = omega (arith, h.depth, less.depth);
      size = omega (arith, h.size, less.size);
    }

-- ---- well formed trees are well formed without calls

mutual
  pub formed_still : (t : WideTree) → IsWellFormed t → IsWellFormed (without_calls t)
  formed_still (leaf text) h = h
  formed_still (node l ts) h =
      called_holds IsWellFormed (λ m text us e k. (label_by text e, k.1.1)) l (all_without_calls ts)
      (h.0, all_formed_still ts h.1)

  all_formed_still : (ts : Forest) → AreWellFormed ts → AreWellFormed (all_without_calls ts)
  all_formed_still nil h = tt
  all_formed_still (cons t ts) h = (formed_still t h.0, all_formed_still ts h.1)

-- ---- a second time

stuck : (b : Bool) (x y : WideTree) → b ≡ false → (if b then x else y) ≡ y
stuck true x y e = absurd cc
stuck false x y e = refl

called_again : (l : List ℕ) (ts : Forest) → all_without_calls ts ≡ ts → without_calls (called l ts) ≡ called l ts
called_again l nil e = refl
called_again l (cons (node m us) ts) e = ap (called l) e
called_again l (cons (leaf text) ts) e =
    let rest : all_without_calls ts ≡ ts = cc in
    by_test (λ u. without_calls u ≡ u) (is_call l && is_label text) (called text ts) (node l (cons (leaf text) ts))
    (λ b. called_again text ts rest)
    (λ b. ap (called l) e ∙ stuck (is_call l && is_label text) (called text ts) (node l (cons (leaf text) ts)) b)

mutual
  pub again : (t : WideTree) → without_calls (without_calls t) ≡ without_calls t
  again (leaf text) = refl
  again (node l ts) = called_again l (all_without_calls ts) (all_again ts)

  all_again : (ts : Forest) → all_without_calls (all_without_calls ts) ≡ all_without_calls ts
  all_again nil = refl
  all_again (cons t ts) = let one = again t in let more = all_again ts in cc

-- ---- the modern form

pub modern_of_old : (t : WideTree) → is_old t ≡ true → modern t ≡ without_calls t
modern_of_old t e = ap (λ b. if b then without_calls t else t) e

pub modern_of_new : (t : WideTree) → is_old t ≡ false → modern t ≡ t
modern_of_new t e = ap (λ b. if b then without_calls t else t) e

pub modern_again : (t : WideTree) → modern (modern t) ≡ modern t
modern_again t =
    by_test (λ u. modern u ≡ u) (is_old t) (without_calls t) t
    (λ e. by_test (λ u. u ≡ without_calls t) (is_old (without_calls t)) (without_calls (without_calls t))
    (without_calls t) (λ f. again t) (λ f. refl))
    (λ e. modern_of_new t e)

pub modern_formed : (t : WideTree) → IsWellFormed t → IsWellFormed (modern t)
modern_formed t h = by_test IsWellFormed (is_old t) (without_calls t) t (λ e. formed_still t h) (λ e. h)

pub modern_within : (t : WideTree) → IsWithinLimits t → IsWithinLimits (modern t)
modern_within t h = by_test IsWithinLimits (is_old t) (without_calls t) t (λ e. within_still t h) (λ e. h)
