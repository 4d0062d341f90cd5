-- `making::put_bytes` meets its contract: the own byte is stored, and the six lowest bytes of the number after it. Assumes nothing.
use mathlib.Core.Path.{◌∙◌, ap}
use Rattle.std.proofs.Common.{take}
use Rattle.making.proofs.Made.{put_seven}
use Rattle.making.proofs.put_bytes.Goals as goal

pub returns : goal.returns
returns c =
    let a = c.args in
    put_seven a.state.now _ _ a.k a.own a.heard.bytes c.requires.room (c.copy_from_slice.ensures.after ∙ ap (take 6) c.to_le_bytes.ensures)
