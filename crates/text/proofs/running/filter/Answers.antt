-- `text::running::filter` meets its contract: the page that was written is printed. Assumes nothing.
use mathlib.Core.Path.{refl}
use lib.ListN.{take}
use Rattle.std.proofs.lemmas.Result.{on_ok_weaker}
use Rattle.text.proofs.running.filter.Goals as goal

pub returns : goal.returns
returns g c =
    on_ok_weaker c.print.result
    (λ p. (take c.in_ok-n.n c.read_front.new.file, c.write_page.new.arg3, record { asked = _; asks = refl; lent = _; is_blank = c.blank-page.ensures; left = _; met = c.write_page.ensures; leaves = refl }, p))
    c.print.ensures
