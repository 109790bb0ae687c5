-- A simple command without subcommands in whose words `clap` finds no fault takes them.
use Rattle.std.proofs.Common.{◌≡◌, ◌∙◌, ◌≤◌, ◌&&◌, ◌||◌, ◌==◌, ◌+◌, ℕ, Bool, cond, true, false, not, zero, suc, refl}
use Rattle.std.proofs.Common.{sym, arith, List, [], ◌∷◌, length, drop, nat_lt, Option, Some, None, is_some, codes, min}
use Rattle.std.proofs.Common.{le-leb}
use Rattle.std.specs.Prelude.{encode_utf8, slice_get}
use Rattle.std.specs.List.{list_all, list_any}
use Rattle.std.specs.Option.{option_map_or}
use Rattle.std.specs.Str.{bytes_eq, chars}
use Rattle.std.proofs.lemmas.Bool.{and_from, eqb-true}
use borrow.Author.Tests.{ltb-false}
use Rattle.clap.specs.Lexer.{long_of, short_of}
use Rattle.clap.specs.Values.{refused_kind}
use Rattle.clap.specs.ValueTests.{accepts}
use Rattle.clap.specs.Matches.{count_text}
use Rattle.clap.specs.Facts.{parser_of_value, unwrap_or_range}
use Rattle.clap.specs.Kinds.{Kinds, check_kinds, or_else, range_kinds, value_kinds, values_kinds}
use Rattle.clap.specs.Walk.{Held, Names, Row, Rule, Step, Text, Waiting, Walk, action_of, arg_by_id, arg_by_index}
use Rattle.clap.specs.Walk.{arg_by_long, arg_by_short, attached_value, count_of, finished, has_row, is_pending}
use Rattle.clap.specs.Walk.{most_values, next, nothing_held, reacted, settled, subcommand, subcommand_met}
use Rattle.clap.specs.Walk.{takes_several, takes_values, trailing, value, values_or_missing, walk, walk_from, walked}
use Rattle.clap.specs.Walk.{word_met}
use Rattle.clap.specs.Simple.{App, Shape, argument_words, built, is_simple}
use Rattle.clap.specs.Takes.{action_passes, bundle_step_passes, default_passes, flag_word_passes, flags_pass, is_given}
use Rattle.clap.specs.Takes.{is_valid, level_passes, long_passes, option_passes, other_passes, positional_passes}
use Rattle.clap.specs.Takes.{react_passes, settle_passes, short_passes, step_passes, takes, turn_passes, use_passes}
use Rattle.clap.specs.Takes.{walk_passes, word_passes}
use Rattle.clap.specs.Faults.{action_fault, bundle_step_fault, check_fault, fault_of, flag_word_fault, flags_fault}
use Rattle.clap.specs.Faults.{level_fault, long_fault, option_fault, other_fault, positional_fault, react_fault}
use Rattle.clap.specs.Faults.{settle_fault, short_fault, step_fault, stray_fault, turn_fault, use_fault, walk_fault}
use Rattle.clap.specs.Faults.{word_fault}
use Rattle.clap.specs.declared.builder.action.ArgAction.{ArgAction}
use Rattle.clap.specs.declared.builder.action.ArgAction.TheVariants as action
use Rattle.clap.specs.declared.builder.value_parser.ValueParser.{ValueParser}
use Rattle.clap.specs.declared.error.kind.ErrorKind.{ErrorKind}
use Rattle.clap.specs.declared.error.kind.ErrorKind.TheVariants as kind
use Rattle.clap.proofs.FaultLemmas.{leaf_fault}
use Rattle.clap.proofs.TakesLemmas.{leaf_takes}

some_kind : {A : Type 0} (k : ErrorKind) (ks : Kinds) → k ∷ ks ≡ [] → A
some_kind k ks e = absurd cc

-- where neither step fails
or_none : (a b : Kinds) → or_else a b ≡ [] → (a ≡ []) × (b ≡ [])
or_none [] b e = (refl, e)
or_none (k ∷ ks) b e = some_kind k ks e

-- ---- one use

value_taken : (i : Bool) (p : ValueParser) (t : Text) → value_kinds i p t ≡ [] → accepts i p t ≡ true
value_taken i p t e = go (accepts i p t) e
  where
    go : (b : Bool) → cond b [] (refused_kind p ∷ []) ≡ [] → b ≡ true
    go true e = refl
    go false e = some_kind _ _ e

values_taken : (i : Bool) (p : ValueParser) (ts : List Text) → values_kinds i p ts ≡ []
    → list_all (accepts i p) ts ≡ true
values_taken i p [] e = refl
values_taken i p (t ∷ ts) e =
    let h = or_none _ _ e in
    and_from _ _ (value_taken i p t h.0) (values_taken i p ts h.1)

range_taken : (least most n : ℕ) → range_kinds least most n ≡ [] → (least ≤ n) × (n ≤ most)
range_taken least most n e =
    go (nat_lt 0 least && n == 0) (least == most) (least == n) (nat_lt n least) (nat_lt most n) refl refl refl refl e
  where
    go : (a b c d f : Bool) → (least == most) ≡ b → (least == n) ≡ c → nat_lt n least ≡ d → nat_lt most n ≡ f
        → cond a (kind.InvalidValue ∷ []) (cond b (cond c [] (kind.WrongNumberOfValues ∷ []))
        (cond d (kind.TooFewValues ∷ []) (cond f (kind.TooManyValues ∷ []) []))) ≡ []
        → (least ≤ n) × (n ≤ most)
    go true b c d f p q r s e = some_kind _ _ e
    go false true true d f p q r s e =
        let x = eqb-true least most p in
        let y = eqb-true least n q in
        (omega arith, omega arith)
    go false true false d f p q r s e = some_kind _ _ e
    go false false c true f p q r s e = some_kind _ _ e
    go false false c false true p q r s e = some_kind _ _ e
    go false false c false false p q r s e = (ltb-false n least r, ltb-false most n s)

set_taken : (again : Bool) (a : Rule) (values : List Text) (rows : List Row)
    → action_fault action.Set again a values rows ≡ [] → action_passes action.Set again a values rows ≡ true
set_taken again a values rows e =
    let h = or_none _ _ e in
    and_from _ _ (go (has_row a.id rows) again h.0) (values_taken _ _ values h.1)
  where
    go : (b c : Bool) → cond (b && not c) (kind.ArgumentConflict ∷ []) [] ≡ [] → (not b || c) ≡ true
    go true true e = refl
    go true false e = some_kind _ _ e
    go false c e = refl

action_taken : (x : ArgAction) (again : Bool) (a : Rule) (values : List Text) (rows : List Row)
    → action_fault x again a values rows ≡ [] → action_passes x again a values rows ≡ true
action_taken action.Set again a values rows e = set_taken again a values rows e
action_taken action.SetTrue again a values rows e = set_taken again a values rows e
action_taken action.SetFalse again a values rows e = set_taken again a values rows e
action_taken action.Append again a values rows e = values_taken _ _ values e
action_taken action.Count again a [] rows e =
    value_taken a.ignore_case (parser_of_value a.parser) (count_text (min (count_of a.id rows + 1) 255)) e
action_taken action.Count again a (v ∷ vs) rows e = values_taken _ _ (v ∷ vs) e
action_taken action.Help again a values rows e = some_kind _ _ e
action_taken action.HelpShort again a values rows e = some_kind _ _ e
action_taken action.HelpLong again a values rows e = some_kind _ _ e
action_taken action.Version again a values rows e = some_kind _ _ e

use_taken : (again : Bool) (a : Rule) (values : List Text) (rows : List Row) → use_fault again a values rows ≡ []
    → use_passes again a values rows ≡ true
use_taken again a values rows e =
    let h = or_none (range_kinds (unwrap_or_range a.range).start_inclusive (most_values a) (length values)) _ e in
    let r = range_taken (unwrap_or_range a.range).start_inclusive (most_values a) (length values) h.0 in
    and_from _ _ (le-leb _ _ r.0) (and_from _ _ (le-leb _ _ r.1)
    (action_taken (action_of a) again a (values_or_missing a values) rows h.1))

-- ---- the walk

module _ (c : List Rule) (again : Bool) where
  settle_taken : (h : Held) → settle_fault c again h ≡ [] → settle_passes c again h ≡ true
  settle_taken h e = pending h.pending e
    where
      by_rule : (o : Option Rule) (p : Text × List Text) → option_map_or (λ a. use_fault again a p.1 h.rows) o [] ≡ []
          → option_map_or (λ a. use_passes again a p.1 h.rows) o true ≡ true
      by_rule None p e = refl
      by_rule (Some a) p e = use_taken again a p.1 h.rows e

      pending : (o : Option (Text × List Text))
          → option_map_or (λ p. option_map_or (λ a. use_fault again a p.1 h.rows) (arg_by_id c p.0) []) o [] ≡ []
          → option_map_or (λ p. option_map_or (λ a. use_passes again a p.1 h.rows) (arg_by_id c p.0) true) o true ≡ true
      pending None e = refl
      pending (Some p) e = by_rule (arg_by_id c p.0) p e

  react_taken : (a : Rule) (values : List Text) (h : Held) → react_fault c again a values h ≡ []
      → react_passes c again a values h ≡ true
  react_taken a values h e =
      let k = or_none _ _ e in
      and_from _ _ (settle_taken h k.0) (use_taken again a values (settled c h).rows k.1)

  option_taken : (a : Rule) (v : Option Text) (h : Held) → option_fault c again a v h ≡ []
      → option_passes c again a v h ≡ true
  option_taken a (Some v) h e = react_taken a (v ∷ []) h e
  option_taken a None h e = settle_taken h e

  long_taken : (found : Option Rule) (v : Option Text) (h : Held) → long_fault c again found v h ≡ []
      → long_passes c again found v h ≡ true
  long_taken None v h e = some_kind _ _ e
  long_taken (Some a) v h e = go (takes_values a) v e
    where
      go : (b : Bool) (w : Option Text)
          → cond b (option_fault c again a w h)
          (cond (is_some w) (kind.TooManyValues ∷ []) (react_fault c again a [] h)) ≡ []
          → cond b (option_passes c again a w h) (not (is_some w) && react_passes c again a [] h) ≡ true
      go true w e = option_taken a w h e
      go false (Some w) e = some_kind _ _ e
      go false None e = react_taken a [] h e

  module _ (fails : Held → Kinds) (passes : Held → Bool) (then : (h : Held) → fails h ≡ [] → passes h ≡ true) where
    short_taken : (found : Option Rule) (rest : Text) (h : Held) → short_fault c again found rest h fails ≡ []
        → short_passes c again found rest h passes ≡ true
    short_taken None rest h e = some_kind _ _ e
    short_taken (Some a) rest h e = go (takes_values a) e
      where
        go : (b : Bool) → cond b (option_fault c again a (attached_value rest) h)
            (or_else (react_fault c again a [] h) (fails (reacted c a [] h))) ≡ []
            → cond b (option_passes c again a (attached_value rest) h)
            (react_passes c again a [] h && passes (reacted c a [] h)) ≡ true
        go true e = option_taken a (attached_value rest) h e
        go false e =
            let k = or_none _ _ e in
            and_from _ _ (react_taken a [] h k.0) (then (reacted c a [] h) k.1)

  flags_taken : (k : ℕ) (flags : Text) (skip : ℕ) (h : Held) → flags_fault c again k flags skip h ≡ []
      → flags_pass c again k flags skip h ≡ true
  unfolding flags_fault flags_pass
  flags_taken zero flags skip h e = refl
  flags_taken (suc k) flags skip h e = step (slice_get (chars flags) 0) skip e (λ t n g. flags_taken k t n g)
    where
      step : (o : Option ℕ) (n : ℕ) → bundle_step_fault c again o flags n h (flags_fault c again k) ≡ []
          → ((t : Text) (m : ℕ) (g : Held) → flags_fault c again k t m g ≡ [] → flags_pass c again k t m g ≡ true)
          → bundle_step_passes c again o flags n h (flags_pass c again k) ≡ true
      step None n e more = refl
      step (Some x) zero e more =
          let rest = drop (length (encode_utf8 x)) flags in
          short_taken (flags_fault c again k rest 0) (flags_pass c again k rest 0) (λ g. more rest 0 g)
          (arg_by_short c x) rest h e
      step (Some x) (suc n) e more = more (drop (length (encode_utf8 x)) flags) n h e

  flag_word_taken : (o : Option (Text × Option Text)) (word : Text) (h : Held) → flag_word_fault c again o word h ≡ []
      → flag_word_passes c again o word h ≡ true
  flag_word_taken (Some p) word h e = long_taken (arg_by_long c p.0) p.1 h e
  flag_word_taken None word h e = go (short_of word) e
    where
      go : (o : Option Text) → option_map_or
          (λ flags. flags_fault c again (length flags) flags h.skip (record h { skip = 0 })) o [] ≡ []
          → option_map_or (λ flags. flags_pass c again (length flags) flags h.skip (record h { skip = 0 })) o true
          ≡ true
      go None e = refl
      go (Some flags) e = flags_taken (length flags) flags h.skip (record h { skip = 0 }) e

  positional_taken : (a : Rule) (h : Held) → positional_fault c again a h ≡ [] → positional_passes c again a h ≡ true
  positional_taken a h e = go (is_pending a h.pending && takes_several a) e
    where
      go : (b : Bool) → cond b [] (settle_fault c again h) ≡ [] → (b || settle_passes c again h) ≡ true
      go true e = refl
      go false e = settle_taken h e

module _ (s : Shape) where
  other_taken : (o : Option Text) (word : Text) (h : Held) → other_fault s o word h ≡ []
      → other_passes s o word h ≡ true
  other_taken (Some name) word h e = go (bytes_eq name (codes "help")) s.disable_help_subcommand e
    where
      go : (b d : Bool) → cond (b && not d) (kind.DisplayHelp ∷ kind.InvalidSubcommand ∷ []) [] ≡ []
          → (not b || d) ≡ true
      go true true e = refl
      go true false e = some_kind _ _ e
      go false d e = refl
  other_taken None word h e = go (bytes_eq word (45 ∷ 45 ∷ [])) e
    where
      go : (b : Bool) → cond b [] (flag_word_fault s.rules s.args_override_self (long_of word) word h) ≡ []
          → (b || flag_word_passes s.rules s.args_override_self (long_of word) word h) ≡ true
      go true e = refl
      go false e = flag_word_taken s.rules s.args_override_self (long_of word) word h e

  word_taken : (names : Names) (is_trailing : Bool) (waiting : Waiting) (word : Text) (h : Held)
      → word_fault s names is_trailing waiting word h ≡ [] → word_passes s names is_trailing waiting word h ≡ true
  word_taken names true waiting word h e = refl
  word_taken names false waiting word h e = other_taken (subcommand_met names waiting word) word h e

  step_taken : (position : ℕ) (h : Held) (step : Step) → step_fault s position h step ≡ []
      → step_passes s position h step ≡ true
  step_taken position h value e = go (arg_by_index s.rules position) e
    where
      stray : (b : Bool) → cond b (kind.UnknownArgument ∷ []) (kind.UnknownArgument ∷ kind.InvalidSubcommand ∷ []) ≡ []
          → false ≡ true
      stray true e = some_kind _ _ e
      stray false e = some_kind _ _ e

      go : (o : Option Rule) → option_map_or (λ a. positional_fault s.rules s.args_override_self a h) o (stray_fault s)
          ≡ [] → option_map_or (λ a. positional_passes s.rules s.args_override_self a h) o false ≡ true
      go None e = stray s.is_leaf e
      go (Some a) e = positional_taken s.rules s.args_override_self a h e
  step_taken position h (next w) e = refl
  step_taken position h (trailing n) e = refl
  step_taken position h (subcommand name) e = refl

  turn_taken : (names : Names) (w : Walk) (word : Text) → turn_fault s names w word ≡ []
      → turn_passes s names w word ≡ true
  turn_taken names w word e = go (is_some w.stopped) e
    where
      met : Held × Step
      met = word_met s.rules names w.is_trailing w.waiting w.position word w.held

      go : (b : Bool) → cond b []
          (or_else (word_fault s names w.is_trailing w.waiting word w.held) (step_fault s w.position met.0 met.1)) ≡ []
          → (b || (word_passes s names w.is_trailing w.waiting word w.held && step_passes s w.position met.0 met.1))
          ≡ true
      go true e = refl
      go false e =
          let k = or_none _ _ e in
          and_from _ _ (word_taken names w.is_trailing w.waiting word w.held k.0)
          (step_taken w.position met.0 met.1 k.1)

  walk_taken : (names : Names) (w : Walk) (words : List Text) → walk_fault s names w words ≡ []
      → walk_passes s names w words ≡ true
  unfolding walk_fault walk_passes
  walk_taken names w [] e = refl
  walk_taken names w (word ∷ rest) e =
      let k = or_none _ _ e in
      and_from _ _ (turn_taken names w word k.0) (walk_taken names (walked s.rules names w word) rest k.1)

  -- ---- after the walk

  none_missing : (rows : List Row) (rules : List Rule)
      → list_any (λ a. a.required && not (is_given a.id rows)) rules ≡ false
      → list_all (λ a. not a.required || is_given a.id rows) rules ≡ true
  none_missing rows [] e = refl
  none_missing rows (a ∷ rules) e = go a.required (is_given a.id rows) e (λ later. none_missing rows rules later)
    where
      go : (b d : Bool) → ((b && not d) || list_any (λ x. x.required && not (is_given x.id rows)) rules) ≡ false
          → (list_any (λ x. x.required && not (is_given x.id rows)) rules ≡ false
          → list_all (λ x. not x.required || is_given x.id rows) rules ≡ true)
          → ((not b || d) && list_all (λ x. not x.required || is_given x.id rows) rules) ≡ true
      go true true e later = later e
      go true false e later = cc
      go false d e later = later e

  no_checks : (a b d : Bool) → check_kinds a b d ≡ [] → (a ≡ false) × (b ≡ false) × (d ≡ false)
  no_checks true b d e = some_kind _ _ e
  no_checks false true d e = some_kind _ _ e
  no_checks false false true e = some_kind _ _ e
  no_checks false false false e = (refl, refl, refl)

  valid_taken : (rows : List Row) (has : Bool) → list_all (λ a. a.is_free) s.rules ≡ true → check_fault s rows has ≡ []
      → is_valid s rows has ≡ true
  valid_taken rows has free e =
      let k = no_checks _ _ _ e in
      and_from _ _ (help has s.arg_required_else_help _ k.0)
      (and_from _ _ (sub has s.subcommand_required k.1)
      (and_from _ _ free (missing (s.subcommand_negates_reqs && has) k.2)))
    where
      help : (h r g : Bool) → (not h && (r && not g)) ≡ false → (not r || (h || g)) ≡ true
      help true true g e = refl
      help true false g e = refl
      help false true true e = refl
      help false true false e = cc
      help false false g e = refl

      sub : (h r : Bool) → (not h && r) ≡ false → (not r || h) ≡ true
      sub true true e = refl
      sub true false e = refl
      sub false true e = cc
      sub false false e = refl

      missing : (n : Bool) → (not n && list_any (λ a. a.required && not (is_given a.id rows)) s.rules) ≡ false
          → (n || list_all (λ a. not a.required || is_given a.id rows) s.rules) ≡ true
      missing true e = refl
      missing false e = none_missing rows s.rules e

  level_taken : (names : Names) (h : Held) (words : List Text) → list_all default_passes s.rules ≡ true
      → list_all (λ a. a.is_free) s.rules ≡ true
      → level_fault s names h words false [] ≡ [] → level_passes s names h words false ≡ true
  level_taken names h words defaults free e =
      let k = or_none _ _ e in
      let l = or_none _ _ k.1 in
      let m = or_none _ _ l.1 in
      and_from _ _ (walk_taken names (walk_from h) words k.0)
      (and_from _ _ (settle_taken s.rules s.args_override_self (walk s.rules names h words).held l.0)
      (and_from _ _ defaults (valid_taken (finished s.rules (walk s.rules names h words).held) false free m.1)))

pub no_fault_takes : (a : App) (words : List Text) → is_simple a ≡ true → (built a).subs ≡ []
    → list_all default_passes (built a).top.rules ≡ true → list_all (λ x. x.is_free) (built a).top.rules ≡ true
    → fault_of a words ≡ [] → takes a words ≡ true
no_fault_takes a words simple none defaults free e =
    and_from _ _ simple (leaf_takes (built a) nothing_held (argument_words a words) none
    (level_taken (built a).top [] nothing_held (argument_words a words) defaults free
    (sym (leaf_fault (built a) nothing_held (argument_words a words) none) ∙ e)))
