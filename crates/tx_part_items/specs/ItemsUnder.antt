-- What values under a path show: the items have their origins under it.
use Rattle.std.specs.Prelude.{ℕ, List, map}
use Rattle.tx_origin.specs.Under.{origin_under}
use Rattle.tx_items.specs.Looks.{WideLook}
use Rattle.tx_items.specs.declared.drawing.Item.{Item}
use Rattle.tx_items.specs.declared.drawing.Item.TheVariants.{Glyph, Space, Chance, Gap, Break, PageEnd, Down}
use Rattle.tx_items.specs.declared.drawing.Paragraph.{Paragraph}
use Rattle.tx_items.specs.Shows.{ItemRun, empty, begun, Form, inline, listed, Shown}

abbrev pub look_under : List ℕ → WideLook → WideLook
look_under base look = record look { at = origin_under base look.at }

abbrev pub item_under : List ℕ → Item → Item
item_under base (Glyph d) = Glyph (record d { look = look_under base d.look })
item_under base (Space d) = Space (record d { look = look_under base d.look })
item_under base (Chance d) = Chance (record d { look = look_under base d.look })
item_under base (Gap n) = Gap n
item_under base Break = Break
item_under base PageEnd = PageEnd
item_under base (Down n) = Down n

abbrev pub paragraph_under : List ℕ → Paragraph → Paragraph
paragraph_under base p = record p { items = map (item_under base) p.items }

abbrev pub run_under : List ℕ → ItemRun → ItemRun
run_under base empty = empty
run_under base (begun a items) = begun a (map (item_under base) items)

abbrev pub form_under : List ℕ → Form → Form
form_under base (inline r) = inline (run_under base r)
form_under base (listed ps) = listed (map (paragraph_under base) ps)

abbrev pub shown_under : List ℕ → Shown → Shown
shown_under base s = record s { form = form_under base s.form }
