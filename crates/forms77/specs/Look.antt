-- What clauses see of a look.
use Rattle.tree77.specs.Forms as form
use Rattle.forms77.specs.declared.look.Look.{Look}
use Rattle.forms77.specs.declared.look.Look.TheVariants as look

abbrev pub look_of : Look → form.Look
look_of (look.One ks) = form.one ks.now
look_of (look.Two k ks) = form.two k ks.now
look_of (look.Three a b c) = form.three a b c
look_of (look.Text w ks) = form.text w.now ks.now
look_of (look.Group ks) = form.group ks.now
look_of look.Equated = form.equated
