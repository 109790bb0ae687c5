use Rattle.std.proofs.Common.{◌≤◌, map, length, Global, sym, subst, ◌∙◌, rules, arith}
use Rattle.std.specs.String.{string_bytes}
use Rattle.tx_words.specs.declared.asked.Source.TheVariants.{Files as AllFiles, Generated as FromNumber}
use Rattle.tx_words.specs.Words.{Ask, AreFaulty, IfFiles, AreNamedApart}
use Rattle.tx_open.specs.Openings.{failed_as}
use Rattle.tx_open.proofs.Complete.{asks, comes_from, fault_caused, is_opened, long_caused, missing_caused}
use Rattle.tx_open.proofs.Loads.{asked_from, caused_up_to}
use Rattle.tx_open.proofs.Reading.{as_many, names_differ}
use Rattle.tx_open.proofs.opening.open.Goals as goal

-- ---- files that are read

pub returns-in-Ok-read_files-clause-number : goal.returns-in-Ok-read_files-clause-number
returns-in-Ok-read_files-clause-number g c =
    let same = as_many (g.S.Store.seen c.args.store.now).files c.in-Files.files c.in-Ok-read_files.all.buffers
    c.in-Ok-read_files.ensures.read in
    let few = subst (λ s. IfFiles s (λ files. (1 ≤ length files) × (length files ≤ 64))) c.in-Files.is
    c.in-Ok.ensures.files in
    (omega (arith, same, few.0), omega (arith, same, few.1))

pub returns-in-Ok-read_files-clause-names : goal.returns-in-Ok-read_files-clause-names
returns-in-Ok-read_files-clause-names g c =
    names_differ (g.S.Store.seen c.args.store.now).files c.in-Files.files c.in-Ok-read_files.all.buffers
    c.in-Ok-read_files.ensures.read (subst (λ s. IfFiles s AreNamedApart) c.in-Files.is c.in-Ok.ensures.names)

pub returns-in-Ok-read_files-clause-untouched : goal.returns-in-Ok-read_files-clause-untouched
returns-in-Ok-read_files-clause-untouched g c =
    asks (map (string_bytes {Z = Global}) c.args.words.now) c.in-Ok.asked.width c.in-Ok.asked.height
    c.in-Ok.asked.source c.in-Ok.ensures.asked

-- ---- a file that isn't

pub returns-in-Files-clause-untouched : goal.returns-in-Files-clause-untouched
returns-in-Files-clause-untouched g c =
    asks (map (string_bytes {Z = Global}) c.args.words.now) c.in-Ok.asked.width c.in-Ok.asked.height
    c.in-Ok.asked.source c.in-Ok.ensures.asked

pub returns-in-Files-clause-complete : goal.returns-in-Files-clause-complete
returns-in-Files-clause-complete g c = λ can fine.
    let words = map (string_bytes {Z = Global}) c.args.words.now in
    let files = (g.S.Store.seen c.args.store.now).files in
    let before = g.S.Store.seen c.args.store.now in
    let after = g.S.Store.seen c.read_files.new.store in
    let outcome = failed_as c.in-Err.failure in
    let caused = caused_up_to g.S.Store.load_leaves g.S.Store.seen c.args.store.now c.read_files.new.store
    c.in-Files.files outcome c.in-Err.ensures.last in
    let ask = subst (λ s. Ask words c.in-Ok.asked.width c.in-Ok.asked.height s) c.in-Files.is c.in-Ok.ensures.asked in
    is_opened words (c.one_asking.ensures words) files c.from.result can
    (comes_from words files c.in-Ok.asked.width c.in-Ok.asked.height c.in-Files.files ask
    c.from.result c.in-Err.failure c.from.ensures.0 c.in-Err.ensures.failed)
    (λ word e. fine.no_misses (missing_caused before after outcome caused word (sym c.from.ensures.0 ∙ e)))
    (λ word e. fine.no_longs (long_caused before after outcome caused word (sym c.from.ensures.0 ∙ e)))
    (λ word e. fine.no_faults (fault_caused before after outcome caused word (sym c.from.ensures.0 ∙ e)))

pub returns-in-Files-clause-loads : goal.returns-in-Files-clause-loads
returns-in-Files-clause-loads g c =
    let words = map (string_bytes {Z = Global}) c.args.words.now in
    let ask = subst (λ s. Ask words c.in-Ok.asked.width c.in-Ok.asked.height s) c.in-Files.is c.in-Ok.ensures.asked in
    asked_from g.S.Store.load_leaves g.S.Store.seen c.args.store.now c.read_files.new.store words
    c.in-Ok.asked.width c.in-Ok.asked.height c.in-Files.files ask c.from.result c.in-Err.failure c.from.ensures.0
    c.in-Err.ensures.last

-- ---- a generated document

pub returns-in-Ok-generate-clause-untouched : goal.returns-in-Ok-generate-clause-untouched
returns-in-Ok-generate-clause-untouched g c =
    asks (map (string_bytes {Z = Global}) c.args.words.now) c.in-Ok.asked.width c.in-Ok.asked.height
    c.in-Ok.asked.source c.in-Ok.ensures.asked

pub returns-in-Ok-clause-untouched : goal.returns-in-Ok-clause-untouched
returns-in-Ok-clause-untouched g c =
    asks (map (string_bytes {Z = Global}) c.args.words.now) c.in-Ok.asked.width c.in-Ok.asked.height
    c.in-Ok.asked.source c.in-Ok.ensures.asked

-- ---- faulty words

pub returns-in-Err-Faulty-clause-comes : goal.returns-in-Err-Faulty-clause-comes
returns-in-Err-Faulty-clause-comes g c = c.in-Err-Faulty.ensures.faulty (search rules)

pub returns-in-Err-Faulty-clause-complete : goal.returns-in-Err-Faulty-clause-complete
returns-in-Err-Faulty-clause-complete g c = λ can fine.
    let faulty : AreFaulty (map (string_bytes {Z = Global}) c.args.words.now)
    = c.in-Err-Faulty.ensures.faulty (search rules) in
    let all = can.all in
    let opens = can.opens in
    absurd (faulty all.width all.height (AllFiles opens.names) opens.asked)

pub returns-in-Err-Faulty-clause-generated : goal.returns-in-Err-Faulty-clause-generated
returns-in-Err-Faulty-clause-generated g c = λ width height number count ask.
    let faulty : AreFaulty (map (string_bytes {Z = Global}) c.args.words.now)
    = c.in-Err-Faulty.ensures.faulty (search rules) in
    absurd (faulty width height (FromNumber number count) ask)
