-- `directory_sound` meets its contract: a part that does not follow, one that does, and the end of the last.
use mathlib.Core.Path.{sym, ap, ◌∙◌}
use mathlib.Core.Bool.{not}
use Rattle.layout.proofs.Directory.{along_broken, along_next, along_end}
use native.Mathlib.Omega.{arith}
use Rattle.layout.proofs.header.directory_sound.Goals as goal

pub returns-in_default : goal.returns-in_default
returns-in_default c = sym (ap not (along_broken c.args.image.now _ c.loop-i.ends c.loop-i.i c.loop-i.invariant (omega (arith, c.requires.0)) (sym c.follow.ensures ∙ c.in_default.is)))

pub loop-i-preserved : goal.loop-i-preserved
loop-i-preserved c = along_next c.args.image.now _ c.loop-i.ends c.loop-i.i c.loop-i.invariant (omega (arith, c.requires.0)) _ _ (sym c.follow.ensures ∙ c.in-Some.is)

pub returns : goal.returns
returns c = along_end c.args.image.now _ c.loop-i.ends c.loop-i.i c.loop-i.invariant (omega (arith, c.requires.0))
