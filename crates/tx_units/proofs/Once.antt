-- A name that is put after others, each of which is there once.
use Rattle.std.proofs.Common.{◌≡◌, ℕ, ◌+◌, ◌<◌, Bool, true, false, cond, List, [], ◌∷◌, ◌++◌, length, take, get_or}
use Rattle.std.proofs.Common.{refl, sym, ap, ◌∙◌}
use Rattle.std.specs.Prelude.{not, if◌then◌else◌, ◌||◌, Option, Some, None}
use Rattle.std.specs.List.{filter, filter_map, list_any, cons_option}
use Rattle.std.specs.Str.{bytes_eq}
use Rattle.std.specs.Cmp.Lexicographic.{bytes_decides}
use Rattle.std.proofs.lemmas.List.{append-nil, take_more}
use Rattle.std.proofs.lemmas.List.Elements.{filter-append, filter_map-append}
use Rattle.std.proofs.lemmas.Map.Views.{any-filter_same}
use Rattle.tx_tree.specs.WideTree.{WideTree, text_of}
use Rattle.tx_units.specs.Documents.{each_once, put_name}

abbrev Names : Type 0
Names = List (List ℕ)

-- whether n is another name than m
abbrev is_other : List ℕ → List ℕ → Bool
is_other m n = not (bytes_eq n m)

-- where n is m, it is removed with m
goes : (m n : List ℕ) (ks : Names) → bytes_eq n m ≡ true
    → filter (is_other m) (put_name ks (Some n)) ≡ filter (is_other m) ks
goes m n ks e = by (list_any (bytes_eq n) ks)
  where
    by : (b : Bool) → filter (is_other m) (if b then ks else ks ++ n ∷ []) ≡ filter (is_other m) ks
    by true = refl
    by false =
        filter-append (is_other m) ks (n ∷ [])
        ∙ ap (λ b. filter (is_other m) ks ++ cond (not b) (n ∷ []) []) e
        ∙ append-nil (filter (is_other m) ks)

-- where n is another name, it isn't removed
stays : (m n : List ℕ) (ks : Names) → bytes_eq n m ≡ false
    → filter (is_other m) (put_name ks (Some n)) ≡ put_name (filter (is_other m) ks) (Some n)
stays m n ks e = by (list_any (bytes_eq n) ks) ∙ ap (λ b. if b then kept else kept ++ n ∷ []) (sym same_any)
  where
    kept : Names
    kept = filter (is_other m) ks

    is_kept : (k : List ℕ) → bytes_eq n k ≡ true → is_other m k ≡ true
    is_kept k t = let same : n ≡ k = (bytes_decides n k).0 t in ap (λ x. not (bytes_eq x m)) (sym same) ∙ ap not e

    same_any : list_any (bytes_eq n) (filter (is_other m) ks) ≡ list_any (bytes_eq n) ks
    same_any = any-filter_same (bytes_eq n) (is_other m) true is_kept ks

    by : (b : Bool)
        → filter (is_other m) (if b then ks else ks ++ n ∷ [])
        ≡ (if b then filter (is_other m) ks else filter (is_other m) ks ++ n ∷ [])
    by true = refl
    by false = filter-append (is_other m) ks (n ∷ []) ∙ ap (λ b. filter (is_other m) ks ++ cond (not b) (n ∷ []) []) e

-- one name more
pub once_more : (names : Names) (n : List ℕ) → each_once (names ++ n ∷ []) ≡ put_name (each_once names) (Some n)
once_more [] n = refl
once_more (m ∷ ms) n = ap (λ ks. m ∷ filter (is_other m) ks) (once_more ms n) ∙ by (bytes_eq n m) refl
  where
    rest : Names
    rest = filter (is_other m) (each_once ms)

    by : (b : Bool) → bytes_eq n m ≡ b
        → m ∷ filter (is_other m) (put_name (each_once ms) (Some n))
        ≡ (if b || list_any (bytes_eq n) (filter (is_other m) (each_once ms)) then m ∷ filter (is_other m)
        (each_once ms) else m ∷ (filter (is_other m) (each_once ms) ++ n ∷ []))
    by true e = ap (λ ks. m ∷ ks) (goes m n (each_once ms) e)
    by false e =
        ap (λ ks. m ∷ ks) (stays m n (each_once ms) e)
        ∙ spread (list_any (bytes_eq n) (filter (is_other m) (each_once ms))) (filter (is_other m) (each_once ms))
      where
        spread : (b : Bool) (ks : Names)
            → m ∷ (if b then ks else ks ++ n ∷ []) ≡ (if b then m ∷ ks else m ∷ (ks ++ n ∷ []))
        spread true ks = refl
        spread false ks = refl

-- one tree more, which is a name or none
name_more : (ts : List WideTree) (i : ℕ) (t : WideTree) → i < length ts → t ≡ get_or ts i t
    → filter_map text_of (take (i + 1) ts) ≡ filter_map text_of (take i ts) ++ cons_option (text_of t) []
name_more ts i t lt is =
    ap (filter_map text_of) (take_more ts i t lt ∙ ap (λ u. take i ts ++ u ∷ []) (sym is))
    ∙ filter_map-append text_of (take i ts) (t ∷ [])

pub name_next : (ts : List WideTree) (i : ℕ) (t : WideTree) (old new : Names) → i < length ts → t ≡ get_or ts i t
    → old ≡ each_once (filter_map text_of (take i ts)) → new ≡ put_name old (text_of t)
    → new ≡ each_once (filter_map text_of (take (i + 1) ts))
name_next ts i t old new lt is so more =
    more ∙ ap (λ ks. put_name ks (text_of t)) so ∙ by (text_of t) ∙ ap each_once (sym (name_more ts i t lt is))
  where
    by : (o : Option (List ℕ))
        → put_name (each_once (filter_map text_of (take i ts))) o ≡ each_once
        (filter_map text_of (take i ts) ++ cons_option o [])
    by None = ap each_once (sym (append-nil (filter_map text_of (take i ts))))
    by (Some n) = sym (once_more (filter_map text_of (take i ts)) n)
