use Rattle.std.proofs.Common.{refl}
use Rattle.tx_cmd.specs.declared.command.Command.TheVariants.{Change, Undo, Redo, At, Go, Click, Left, Right, Typed}
use Rattle.tx_cmd.specs.declared.command.Command.TheVariants.{Backspace, Enter, Cursor, Tree, Work, UndoAt}
use Rattle.tx_session.specs.Saying.{reply_mark}
use Rattle.tx_session.specs.Worlds.{plain}
use Rattle.tx_session.proofs.Refreshed.{free_takes, still_keeps}
use Rattle.tx_session.proofs.Replied.{is_replied, is_said}
use Rattle.tx_session.proofs.session.Session.answer.Goals as goal

pub returns-in-Cursor-clause-replied : goal.returns-in-Cursor-clause-replied
returns-in-Cursor-clause-replied g c =
    let now = c.args.self.now in
    let s = c.say_cursor.ensures.said in
    let store = g.S.Store.seen c.args.store.now in
    is_said Cursor c.args.command.now now now store store _ _ c.say_cursor.result (g.O.Sink.seen c.args.out.now).written
    (g.O.Sink.seen c.say_cursor.new.out).written c.in-Cursor.is
    (plain, s.0, s.1 store, s.2, refl, free_takes Cursor now plain _ refl)

pub returns-in-Work-clause-replied : goal.returns-in-Work-clause-replied
returns-in-Work-clause-replied g c =
    let s = c.say_work.ensures.said in
    let store = g.S.Store.seen c.args.store.now in
    is_said Work c.args.command.now c.args.self.now c.say_work.new.self store store _ _ c.say_work.result
    (g.O.Sink.seen c.args.out.now).written (g.O.Sink.seen c.say_work.new.out).written c.in-Work.is
    (s.0, s.1, s.2 store, s.3, s.4, s.5)

pub returns-in-Tree-clause-replied : goal.returns-in-Tree-clause-replied
returns-in-Tree-clause-replied g c =
    let now = c.args.self.now in
    let store = g.S.Store.seen c.args.store.now in
    is_replied Tree c.args.command.now now now store store _ _ c.tree.result c.text.result.now c.say.result
    (g.O.Sink.seen c.args.out.now).written (g.O.Sink.seen c.say.new.out).written c.in-Tree.is c.text.ensures
    (c.tree.ensures store) c.say.ensures.said (still_keeps Tree now now refl refl refl c.tree.result)
    (free_takes Tree now (reply_mark c.tree.result) _ refl)

pub returns-in-Change-clause-replied : goal.returns-in-Change-clause-replied
returns-in-Change-clause-replied g c =
    let store = g.S.Store.seen c.args.store.now in
    is_replied (Change c.in-Change.m) c.args.command.now c.args.self.now c.change.new.self store store _ _
    c.change.result c.text-in-Change.result.now c.say-in-Change.result (g.O.Sink.seen c.args.out.now).written
    (g.O.Sink.seen c.say-in-Change.new.out).written c.in-Change.is c.text-in-Change.ensures
    (c.change.ensures.replied store)
    c.say-in-Change.ensures.said
    c.change.ensures.keeps
    c.change.ensures.takes

pub returns-in-Undo-clause-replied : goal.returns-in-Undo-clause-replied
returns-in-Undo-clause-replied g c =
    let store = g.S.Store.seen c.args.store.now in
    is_replied Undo c.args.command.now c.args.self.now c.undo.new.self store store _ _
    c.undo.result c.text-in-Undo.result.now c.say-in-Undo.result (g.O.Sink.seen c.args.out.now).written
    (g.O.Sink.seen c.say-in-Undo.new.out).written c.in-Undo.is c.text-in-Undo.ensures (c.undo.ensures.replied store)
    c.say-in-Undo.ensures.said
    c.undo.ensures.keeps
    c.undo.ensures.takes

pub returns-in-UndoAt-clause-replied : goal.returns-in-UndoAt-clause-replied
returns-in-UndoAt-clause-replied g c =
    let store = g.S.Store.seen c.args.store.now in
    is_replied (UndoAt c.in-UndoAt.n) c.args.command.now c.args.self.now c.undo_at.new.self store store _ _
    c.undo_at.result c.text-in-UndoAt.result.now c.say-in-UndoAt.result (g.O.Sink.seen c.args.out.now).written
    (g.O.Sink.seen c.say-in-UndoAt.new.out).written c.in-UndoAt.is c.text-in-UndoAt.ensures
    (c.undo_at.ensures.replied store)
    c.say-in-UndoAt.ensures.said
    c.undo_at.ensures.keeps
    c.undo_at.ensures.takes

pub returns-in-Redo-clause-replied : goal.returns-in-Redo-clause-replied
returns-in-Redo-clause-replied g c =
    let store = g.S.Store.seen c.args.store.now in
    is_replied Redo c.args.command.now c.args.self.now c.redo.new.self store store _ _
    c.redo.result c.text-in-Redo.result.now c.say-in-Redo.result (g.O.Sink.seen c.args.out.now).written
    (g.O.Sink.seen c.say-in-Redo.new.out).written c.in-Redo.is c.text-in-Redo.ensures (c.redo.ensures.replied store)
    c.say-in-Redo.ensures.said
    c.redo.ensures.keeps
    c.redo.ensures.takes

pub returns-in-Go-clause-replied : goal.returns-in-Go-clause-replied
returns-in-Go-clause-replied g c =
    let store = g.S.Store.seen c.args.store.now in
    is_replied (Go c.in-Go.numbers) c.args.command.now c.args.self.now c.go.new.self store store _ _
    c.go.result c.text-in-Go.result.now c.say-in-Go.result (g.O.Sink.seen c.args.out.now).written
    (g.O.Sink.seen c.say-in-Go.new.out).written c.in-Go.is c.text-in-Go.ensures (c.go.ensures.replied store)
    c.say-in-Go.ensures.said
    (still_keeps (Go c.in-Go.numbers) c.args.self.now c.go.new.self refl refl c.go.ensures.keep c.go.result)
    (free_takes (Go c.in-Go.numbers) c.args.self.now (reply_mark c.go.result) _ refl)

pub returns-in-At-clause-replied : goal.returns-in-At-clause-replied
returns-in-At-clause-replied g c =
    let store = g.S.Store.seen c.args.store.now in
    is_replied (At c.in-At.name) c.args.command.now c.args.self.now c.choose.new.self store store _ _
    c.choose.result c.text-in-At.result.now c.say-in-At.result (g.O.Sink.seen c.args.out.now).written
    (g.O.Sink.seen c.say-in-At.new.out).written c.in-At.is c.text-in-At.ensures (c.choose.ensures.replied store)
    c.say-in-At.ensures.said
    (still_keeps (At c.in-At.name) c.args.self.now c.choose.new.self refl refl c.choose.ensures.keep c.choose.result)
    (free_takes (At c.in-At.name) c.args.self.now (reply_mark c.choose.result) _ refl)

pub returns-in-Click-clause-replied : goal.returns-in-Click-clause-replied
returns-in-Click-clause-replied g c =
    let store = g.S.Store.seen c.args.store.now in
    is_replied (Click c.in-Click.r c.in-Click.c) c.args.command.now c.args.self.now c.click.new.self store store _ _
    c.click.result c.text-in-Click.result.now c.say-in-Click.result (g.O.Sink.seen c.args.out.now).written
    (g.O.Sink.seen c.say-in-Click.new.out).written c.in-Click.is c.text-in-Click.ensures (c.click.ensures.replied store)
    c.say-in-Click.ensures.said
    c.click.ensures.keeps
    c.click.ensures.takes

pub returns-in-Left-clause-replied : goal.returns-in-Left-clause-replied
returns-in-Left-clause-replied g c =
    let store = g.S.Store.seen c.args.store.now in
    is_replied Left c.args.command.now c.args.self.now c.left.new.self store store _ _
    c.left.result c.text-in-Left.result.now c.say-in-Left.result (g.O.Sink.seen c.args.out.now).written
    (g.O.Sink.seen c.say-in-Left.new.out).written c.in-Left.is c.text-in-Left.ensures (c.left.ensures.replied store)
    c.say-in-Left.ensures.said
    c.left.ensures.keeps
    c.left.ensures.takes

pub returns-in-Right-clause-replied : goal.returns-in-Right-clause-replied
returns-in-Right-clause-replied g c =
    let store = g.S.Store.seen c.args.store.now in
    is_replied Right c.args.command.now c.args.self.now c.right.new.self store store _ _
    c.right.result c.text-in-Right.result.now c.say-in-Right.result (g.O.Sink.seen c.args.out.now).written
    (g.O.Sink.seen c.say-in-Right.new.out).written c.in-Right.is c.text-in-Right.ensures (c.right.ensures.replied store)
    c.say-in-Right.ensures.said
    c.right.ensures.keeps
    c.right.ensures.takes

pub returns-in-Typed-clause-replied : goal.returns-in-Typed-clause-replied
returns-in-Typed-clause-replied g c =
    let store = g.S.Store.seen c.args.store.now in
    is_replied (Typed c.in-Typed.text) c.args.command.now c.args.self.now c.typed.new.self store store _ _
    c.typed.result c.text-in-Typed.result.now c.say-in-Typed.result (g.O.Sink.seen c.args.out.now).written
    (g.O.Sink.seen c.say-in-Typed.new.out).written c.in-Typed.is c.text-in-Typed.ensures (c.typed.ensures.replied store)
    c.say-in-Typed.ensures.said
    c.typed.ensures.keeps
    c.typed.ensures.takes

pub returns-in-Backspace-clause-replied : goal.returns-in-Backspace-clause-replied
returns-in-Backspace-clause-replied g c =
    let store = g.S.Store.seen c.args.store.now in
    is_replied Backspace c.args.command.now c.args.self.now c.backspace.new.self store store _ _
    c.backspace.result c.text-in-Backspace.result.now c.say-in-Backspace.result (g.O.Sink.seen c.args.out.now).written
    (g.O.Sink.seen c.say-in-Backspace.new.out).written c.in-Backspace.is c.text-in-Backspace.ensures
    (c.backspace.ensures.replied store)
    c.say-in-Backspace.ensures.said
    c.backspace.ensures.keeps
    c.backspace.ensures.takes

pub returns-in-Enter-clause-replied : goal.returns-in-Enter-clause-replied
returns-in-Enter-clause-replied g c =
    let store = g.S.Store.seen c.args.store.now in
    is_replied Enter c.args.command.now c.args.self.now c.enter.new.self store store _ _
    c.enter.result c.text-in-Enter.result.now c.say-in-Enter.result (g.O.Sink.seen c.args.out.now).written
    (g.O.Sink.seen c.say-in-Enter.new.out).written c.in-Enter.is c.text-in-Enter.ensures (c.enter.ensures.replied store)
    c.say-in-Enter.ensures.said
    c.enter.ensures.keeps
    c.enter.ensures.takes
