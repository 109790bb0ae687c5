-- What is open after bytes that the machine has taken, by their tokens.
use Rattle.std.proofs.Common.{◌≡◌, ℕ, Bool, true, false, ◌==◌, ◌||◌, ◌&&◌, nat_lt, if◌then◌else◌, List, [], ◌∷◌, ◌++◌}
use Rattle.std.proofs.Common.{length, map, Option, Some, None, refl, sym, ap, subst, ◌∙◌, append_assoc}
use Rattle.std.specs.List.{flat_map}
use Rattle.std.proofs.lemmas.List.{append_cancel_right}
use Rattle.tx_tree.specs.declared.TheConstants.{MOST_NAME}
use Rattle.tx_tree.specs.Texts.{is_name_byte}
use Rattle.tx_tm_form.specs.declared.places.TagForm.{TagForm}
use Rattle.tx_tm_form.specs.declared.places.TagForm.TheVariants.{Long}
use Rattle.tx_tm_form.specs.declared.places.TagPlace.{TagPlace}
use Rattle.tx_tm_form.specs.declared.marks.TagMark.{TagMark}
use Rattle.tx_tm_form.specs.declared.marks.Inside.{Inside}
use Rattle.tx_tm_form.specs.declared.marks.Inside.TheVariants.{Parts, Symbol, Digits}
use Rattle.tx_tm_form.specs.Tokens.{Token, plain, escape, head, written, is_dropped, without_joins}
use Rattle.tx_tm_form.specs.Forms.{Pieces, Arguments, no_argument, argument, nothing, name_token, tokens_of}
use Rattle.tx_tm_form.specs.Forms.{tag_beginning}
use Rattle.tx_tm_form.specs.Forms.{more_arguments, tokens_of_blocks}
use Rattle.tx_tm_form.specs.Growing.{Content, place_of}
use Rattle.tx_tm_form.specs.Machine.{Open, State, reading, naming, counting, failed, go, by_escape, name_byte, name_end}
use Rattle.tx_tm_form.specs.Machine.{feed, feeds, Lex, Bytewise, at, run, Keeping, keep, start}
use Rattle.tx_tm_form.specs.Marks.{Standing, standing_in, new_mark, is_symbol, is_parts, begins_mark, begins_marks}
use Rattle.tx_tm_form.specs.Marks.{Marked}
use Rattle.tx_tm_form.specs.Marks.{keep_marks, start_marks}
use Rattle.tx_tm_form.specs.Faults.{begun_bytes, IsScanned, IsInSymbol, IsInBlock}
use Rattle.tx_tm_form.proofs.Complete.{no_escape_less, no_end}
use Rattle.tx_tm_form.proofs.Words.{keeps_state, file_state, one_token_list}
use Rattle.tx_tm_form.proofs.Sound.{BlockFrame, Took, feeds_took, first_body, other_bodies, bodies_tokens, ended_tokens}
use Rattle.tx_tm_form.proofs.Sound.{inner, Inner}
use Rattle.tx_tm_form.proofs.Taken.{kept_tokens}
use Rattle.tx_tm_form.proofs.Begun.{scanned_run, read_behind, behind_once}
use Rattle.tx_tm_form.proofs.Marking.{IsStanding, IsMarked}
use Rattle.tx_tm_form.proofs.Passing.{marked, marks_fold, block_mark}

-- ---- symbols

abbrev IsNaming : State → Type 0
IsNaming (reading here fs) = ⊥
IsNaming (naming n here fs) = Unit {0}
IsNaming (counting ds here fs) = ⊥
IsNaming failed = Unit {0}

go_naming : (c : Bool) (n : List ℕ) (here : Content) (fs : List Open) → IsNaming (go c (naming n here fs))
go_naming true n here fs = tt
go_naming false n here fs = tt

symbol_begins : (s : State) → IsNaming (feed s (escape 60))
unfolding feed
symbol_begins (reading here fs) = subst (λ o. IsNaming (by_escape o 60 here fs)) (sym no_escape_less) tt
symbol_begins (naming n here fs) = tt
symbol_begins (counting ds here fs) = tt
symbol_begins failed = tt

name_goes_on : (s : State) (b : ℕ) → IsNaming s → IsNaming (feed s (name_token b))
unfolding feed
name_goes_on (naming n here fs) b h =
    elim (b == 124 || b == 92) as
    (λ c. (b == 124 || b == 92) ≡ c → IsNaming (feed (naming n here fs) (if c then escape b else plain b))) [
      | true ↦ λ e.
          subst (λ c. IsNaming (if c then name_end n here fs else name_byte (b == 124 || b == 92) n b here fs))
          (sym (no_end b e)) (go_naming ((b == 124 || b == 92) && nat_lt (length n) MOST_NAME) (n ++ b ∷ []) here fs)
      | false ↦ λ e. go_naming (is_name_byte b && nat_lt (length n) MOST_NAME) (n ++ b ∷ []) here fs
    ] refl
name_goes_on (reading here fs) b h = absurd h
name_goes_on (counting ds here fs) b h = absurd h
name_goes_on failed b h = tt

names_go_on : (name : List ℕ) (s : State) → IsNaming s → IsNaming (feeds s (map name_token name))
names_go_on [] s h = h
names_go_on (b ∷ name) s h = names_go_on name (feed s (name_token b)) (name_goes_on s b h)

feeds_append : (a b : List Token) (s : State) → feeds s (a ++ b) ≡ feeds (feeds s a) b
feeds_append [] b s = refl
feeds_append (t ∷ a) b s = feeds_append a b (feed s t)

symbol_is_named : (ts : List Token) → IsInSymbol ts → IsNaming (feeds file_state (without_joins false ts))
symbol_is_named ts h =
    subst (λ s. IsNaming s)
    (sym (ap (feeds file_state) h.2 ∙ feeds_append h.0 (escape 60 ∷ map name_token h.1) file_state))
    (names_go_on h.1 (feed (feeds file_state h.0) (escape 60)) (symbol_begins (feeds file_state h.0)))

named_is_symbol : (s : State) (inside : Inside) (ms : List TagMark) (ts : List Token) → IsStanding s inside ms
    → is_symbol inside ≡ true → Took s (without_joins false ts) → IsInSymbol ts
named_is_symbol (naming n here fs) (Symbol j) ms ts h e k = (k.0, n, k.3)
named_is_symbol (reading here fs) Parts ms ts h e k = absurd cc
named_is_symbol (counting ds here fs) Digits ms ts h e k = absurd cc
named_is_symbol (reading here fs) (Symbol j) ms ts h e k = absurd h
named_is_symbol (reading here fs) Digits ms ts h e k = absurd h
named_is_symbol (naming n here fs) Parts ms ts h e k = absurd h
named_is_symbol (naming n here fs) Digits ms ts h e k = absurd h
named_is_symbol (counting ds here fs) Parts ms ts h e k = absurd h
named_is_symbol (counting ds here fs) (Symbol j) ms ts h e k = absurd h
named_is_symbol failed Parts ms ts h e k = absurd h
named_is_symbol failed (Symbol j) ms ts h e k = absurd h
named_is_symbol failed Digits ms ts h e k = absurd h

no_symbol_there : (s : State) (inside : Inside) (ms : List TagMark) → IsStanding s inside ms → is_symbol inside ≡ false
    → IsNaming s → ⊥
no_symbol_there (naming n here fs) (Symbol j) ms h e k = absurd cc
no_symbol_there (reading here fs) inside ms h e k = k
no_symbol_there (counting ds here fs) inside ms h e k = k
no_symbol_there (naming n here fs) Parts ms h e k = h
no_symbol_there (naming n here fs) Digits ms h e k = h
no_symbol_there failed Parts ms h e k = h
no_symbol_there failed (Symbol j) ms h e k = h
no_symbol_there failed Digits ms h e k = h

-- ---- the open long tag

first_head : (xs : Arguments) (l : List ℕ) → (more : Bool) × (r : List Token)
    × (tag_beginning Long l xs ≡ head Long l more ∷ r)
first_head no_argument l = (false, [], refl)
first_head (argument x xs) l = (true, tokens_of x ++ more_arguments xs, refl)

-- the tokens before and after a kept beginning of a tag
split_head : (ts u v : List Token) (form : TagForm) (l : List ℕ) (more j : Bool)
    → without_joins j ts ≡ u ++ head form l more ∷ v
    → (before : List Token) × (behind : List Token) × (ts ≡ before ++ head form l more ∷ behind)
    × (without_joins false behind ≡ v)
split_head [] [] v form l more j e = absurd cc
split_head [] (t ∷ u) v form l more j e = absurd cc
split_head (t ∷ ts) u v form l more j e =
    elim (is_dropped j t)
    as (λ d. (if d then without_joins true ts else t ∷ without_joins false ts) ≡ u ++ head form l more ∷ v
    → (before : List Token) × (behind : List Token) × (t ∷ ts ≡ before ++ head form l more ∷ behind)
    × (without_joins false behind ≡ v)) [
      | true ↦ λ g. let r = split_head ts u v form l more true g in (t ∷ r.0, r.1, ap (λ z. t ∷ z) r.2, r.3)
      | false ↦ λ g. here (λ w k. split_head ts w v form l more false k) u g
    ] e
  where
    rest_is : (a b : Token) (x y : List Token) → a ∷ x ≡ b ∷ y → (a ≡ b) × (x ≡ y)
    rest_is a b x y g = (cc, cc)

    here : ((u : List Token) → without_joins false ts ≡ u ++ head form l more ∷ v
        → (before : List Token) × (behind : List Token)
        × (ts ≡ before ++ head form l more ∷ behind) × (without_joins false behind ≡ v))
        → (u : List Token) → t ∷ without_joins false ts ≡ u ++ head form l more ∷ v
        → (before : List Token) × (behind : List Token) × (t ∷ ts ≡ before ++ head form l more ∷ behind)
        × (without_joins false behind ≡ v)
    here k [] g = let p = rest_is t (head form l more) (without_joins false ts) v g in
        ([], ts, ap (λ z. z ∷ ts) p.0, p.1)
    here k (w ∷ u) g =
        let p = rest_is t w (without_joins false ts) (u ++ head form l more ∷ v) g in
        let r = k u p.1 in
        (t ∷ r.0, r.1, ap (λ z. t ∷ z) r.2, r.3)

block_there : (ts u q : List Token) (c : Pieces) (l : List ℕ) (ks : _) → BlockFrame l ks q
    → without_joins false ts ≡ u ++ (q ++ tokens_of c) → (place : ℕ) × IsInBlock ts place
block_there ts u q c l ks h e =
    let b = first_head h.0 l in
    let inside : q ++ tokens_of c ≡ tag_beginning Long l h.0
    ++ (tokens_of (first_body h.1 c) ++ tokens_of_blocks l (other_bodies h.1 c)) =
    ap (λ z. z ++ tokens_of c) h.4 ∙ append_assoc (tag_beginning Long l h.0) (ended_tokens l h.1) (tokens_of c)
    ∙ ap (λ z. tag_beginning Long l h.0 ++ z) (sym (bodies_tokens l h.1 c)) in
    let tail : List Token = b.1 ++ (tokens_of (first_body h.1 c) ++ tokens_of_blocks l (other_bodies h.1 c)) in
    let with_head : tag_beginning Long l h.0
    ++ (tokens_of (first_body h.1 c) ++ tokens_of_blocks l (other_bodies h.1 c))
    ≡ head Long l b.0 ∷ tail =
    ap (λ z. z ++ (tokens_of (first_body h.1 c) ++ tokens_of_blocks l (other_bodies h.1 c))) b.2 in
    let s = split_head ts u tail Long l b.0 false (e ∙ ap (λ z. u ++ z) (inside ∙ with_head)) in (
      length (flat_map written s.0),
      record {
        before = s.0;
        behind = s.1;
        label = l;
        more = b.0;
        arguments = h.0;
        first = first_body h.1 c;
        others = other_bodies h.1 c;
        found = s.2;
        formed = ap (λ z. head Long l b.0 ∷ z) s.3 ∙ sym with_head;
        there = refl;
      },
    )

block_of_here : (w : Option TagPlace) (here : Content) (f : Open) (fs : List Open) (ts : List Token)
    → place_of here ≡ None → place_of here ≡ w → Inner w f here fs (without_joins false ts)
    → (place : ℕ) × IsInBlock ts place
block_of_here None here f fs ts e k h = block_there ts h.0 h.1 h.2 f.label f.children h.4 h.6
block_of_here (Some p) here f fs ts e k h = absurd cc

no_block_there : (w : Option TagPlace) (l : List ℕ) (m : TagMark) → begins_mark w l m ≡ true → w ≡ None
no_block_there None l m e = refl
no_block_there (Some p) l m e = absurd cc

-- the first mark is that of the tag whose block is open
abbrev pub HasTag : List Token → List TagMark → Type 0
HasTag ts ms = (m : TagMark) × (rest : List TagMark) × (ms ≡ m ∷ rest) × IsInBlock ts m.at

same_mark : (z : Standing) (inside : Inside) (place : ℕ) (l : List ℕ) (rest : List TagMark)
    → (let o : Option Standing = Some z in o) ≡ standing_in inside (new_mark place l None ∷ rest)
    → z.marks ≡ new_mark place l None ∷ rest
same_mark z inside place l rest e = ap marks_in e
  where
    marks_in : Option Standing → List TagMark
    marks_in None = []
    marks_in (Some z) = z.marks

tag_there : (s : State) (inside : Inside) (ms : List TagMark) (l : List ℕ) (ts : List Token) → IsStanding s inside ms
    → Took s (without_joins false ts) → is_parts inside ≡ true → begins_marks l ms ≡ true
    → (place : ℕ) × IsInBlock ts place
tag_there (reading here []) Parts [] l ts h k i e = absurd cc
tag_there (reading here (f ∷ fs)) Parts [] l ts h k i e = absurd cc
tag_there (reading here []) Parts (m ∷ ms) l ts h k i e = absurd h
tag_there (reading here (f ∷ fs)) Parts (m ∷ ms) l ts h k i e =
    let p = inner f here fs (without_joins false ts) k in
    block_of_here p.0 here f fs ts (sym h.0 ∙ no_block_there m.inner l m e) p.1 p.2
tag_there s (Symbol j) ms l ts h k i e = absurd cc
tag_there s Digits ms l ts h k i e = absurd cc
tag_there (naming n here fs) Parts ms l ts h k i e = absurd h
tag_there (counting ds here fs) Parts ms l ts h k i e = absurd h
tag_there failed Parts ms l ts h k i e = absurd h

-- ---- all of it

-- what is known of bytes that the machine has taken
pub record IsTaken (x : List ℕ) (q : Lex) (z : Standing) : Type 0 where
  pub tokens : List Token
  pub scanned : IsScanned x tokens q
  pub once : (r : Lex) (us : List Token) → IsScanned x us r → (q ≡ r) × (tokens ≡ us)
  pub symbol : is_symbol z.inside ≡ true → IsInSymbol tokens
  pub no_symbol : is_symbol z.inside ≡ false → IsInSymbol tokens → ⊥
  pub tag : (l : List ℕ) → is_parts z.inside ≡ true → begins_marks l z.marks ≡ true → HasTag tokens z.marks

same_tokens : (x : List ℕ) (q r : Lex) (ts us : List Token) → q ≡ r → IsScanned x ts q → IsScanned x us r → ts ≡ us
same_tokens x q r ts us e h k =
    let same : flat_map written ts ≡ flat_map written us =
    append_cancel_right (flat_map written ts) (flat_map written us) (begun_bytes q)
    (sym h.all ∙ k.all ∙ ap (λ p. flat_map written us ++ begun_bytes p) (sym e)) in
    one_token_list (flat_map written ts) ts us (record { each = h.each; all = refl })
    (record { each = k.each; all = same })

pub same_marked : (q r : Lex) (j k : Marked) → (let x : Bytewise Marked = at q j in x) ≡ at r k → j ≡ k
same_marked q r j k e = cc

has_tag : (ts : List Token) (z : Standing) (place : ℕ) → IsInBlock ts place
    → (marks_fold (marked 0 false (standing_in Parts [])) ts).now ≡ Some z → HasTag ts z.marks
has_tag ts z place h e =
    let o = block_mark ts place z h e in
    (new_mark place h.label None, o.0, same_mark z Parts place h.label o.0 o.1, h)

pub is_taken : (x : List ℕ) (q : Lex) (k : Keeping) (m : Marked) (z : Standing) → run keep start x ≡ at q k
    → run keep_marks start_marks x ≡ at q m → m.now ≡ Some z → IsMarked k.state m.now → IsTaken x q z
is_taken x q k m z e g n i =
    let b = read_behind x q k e in
    let s : k.state ≡ feeds file_state (without_joins false b.0) = ap (λ y. y.state) b.2
    ∙ keeps_state b.0 false file_state in
    let took : Took k.state (without_joins false b.0) =
    subst (λ y. Took y (without_joins false b.0)) (sym s)
    (feeds_took (without_joins false b.0) file_state [] (kept_tokens b.0 false b.1.each) (nothing, refl, refl)) in
    let stands : IsStanding k.state z.inside z.marks = subst (λ o. IsMarked k.state o) n i in
    let now : (marks_fold (marked 0 false (standing_in Parts [])) b.0).now ≡ Some z =
    ap (λ y. y.now)
    (same_marked q q _ m (sym (scanned_run Marked keep_marks x b.0 q (marked 0 false (standing_in Parts [])) b.1) ∙ g))
    ∙ n in
    record {
      tokens = b.0;
      scanned = b.1;
      once = λ r us h. let o = behind_once x q r k us e h in (o.0, same_tokens x q r b.0 us o.0 b.1 h);
      symbol = λ c. named_is_symbol k.state z.inside z.marks b.0 stands c took;
      no_symbol =
          λ c h. no_symbol_there k.state z.inside z.marks stands c (subst IsNaming (sym s) (symbol_is_named b.0 h));
      tag = λ l c d. let t = tag_there k.state z.inside z.marks l b.0 stands took c d in has_tag b.0 z t.0 t.1 now;
    }
