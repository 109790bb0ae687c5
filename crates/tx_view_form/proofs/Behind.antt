-- What is below a path of a tree, and the places of well formed trees.
use Rattle.std.proofs.Common.{◌≡◌, ℕ, zero, suc, List, [], ◌∷◌, ◌++◌, Option, Some, None, refl, sym, ap, subst, arith}
use Rattle.std.specs.Prelude.{slice_get, option_and_then, IsSomeAnd}
use Rattle.tx_tree.specs.Texts.{IsCut}
use Rattle.tx_tree.specs.WideTree.{WideTree, Forest, leaf, node, nil, cons, trees, children_of}
use Rattle.tx_tree.specs.Limits.{IsWellFormed, AreWellFormed}
use Rattle.tx_tree.specs.Paths.{subtree}
use Rattle.tx_tree.specs.Places.{IsOffset, IsPlace}
use Rattle.tx_tree.proofs.Scanning.{no_bytes}
use Rattle.tx_doc.specs.Buffers.{AreFormed, document_of}
use Rattle.tx_doc.specs.declared.buffer.Buffer.{Buffer}
use Rattle.tx_view_form.proofs.Marking.{some_once}

pub subtree_behind : (t s : WideTree) (path more : List ℕ) → subtree t path ≡ Some s
    → subtree t (path ++ more) ≡ subtree s more
subtree_behind t s [] more e = ap (λ u. subtree u more) (some_once t s e)
subtree_behind t s (i ∷ path) more e = by (slice_get (children_of t) i) e (λ u f. subtree_behind u s path more f)
  where
    by : (o : Option WideTree) → option_and_then (λ u. subtree u path) o ≡ Some s
        → ((u : WideTree) → subtree u path ≡ Some s → subtree u (path ++ more) ≡ subtree s more)
        → option_and_then (λ u. subtree u (path ++ more)) o ≡ subtree s more
    by None f on = absurd cc
    by (Some u) f on = on u f

one_formed : (ts : Forest) (i : ℕ) (u : WideTree) → slice_get (trees ts) i ≡ Some u → AreWellFormed ts
    → IsWellFormed u
one_formed nil i u e h = absurd cc
one_formed (cons t ts) zero u e h = subst IsWellFormed (some_once t u e) h.0
one_formed (cons t ts) (suc i) u e h = one_formed ts i u e h.1

child_formed : (t u : WideTree) (i : ℕ) → slice_get (children_of t) i ≡ Some u → IsWellFormed t → IsWellFormed u
child_formed (leaf words) u i e h = absurd cc
child_formed (node label ts) u i e h = one_formed ts i u e h.1

pub formed_behind : (t s : WideTree) (path : List ℕ) → subtree t path ≡ Some s → IsWellFormed t → IsWellFormed s
formed_behind t s [] e h = subst IsWellFormed (some_once t s e) h
formed_behind t s (i ∷ path) e h =
    by (slice_get (children_of t) i) refl e (λ u f. formed_behind u s path f)
  where
    by : (o : Option WideTree) → slice_get (children_of t) i ≡ o → option_and_then (λ u. subtree u path) o ≡ Some s
        → ((u : WideTree) → subtree u path ≡ Some s → IsWellFormed u → IsWellFormed s) → IsWellFormed s
    by None g f on = absurd cc
    by (Some u) g f on = on u f (child_formed t u i g h)

pub document_formed : (buffers : List Buffer) → AreFormed buffers → IsWellFormed (document_of buffers)
document_formed [] h = no_bytes
document_formed (buffer ∷ others) h = h.0.0

-- ---- places

start_offset : (t : WideTree) → IsWellFormed t → IsOffset t 0
start_offset (leaf words) h = ([], h.0, tt, h.1, h.2, refl)
start_offset (node label ts) h = omega arith

pub start_place : (t s : WideTree) (path : List ℕ) → subtree t path ≡ Some s → IsWellFormed t → IsPlace t path 0
start_place t s path e h =
    subst (λ o. IsSomeAnd o (λ u. IsOffset u 0)) (sym e) (start_offset s (formed_behind t s path e h))

pub cut_place : (t : WideTree) (words : List ℕ) (path : List ℕ) (at : ℕ) → subtree t path ≡ Some (leaf words)
    → IsCut words at → IsPlace t path at
cut_place t words path at e h = subst (λ o. IsSomeAnd o (λ u. IsOffset u at)) (sym e) h
