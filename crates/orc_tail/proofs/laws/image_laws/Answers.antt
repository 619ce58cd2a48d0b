use Rattle.orc_tail.proofs.ImageLaws.{image_is, short_is}
use Rattle.orc_tail.proofs.laws.image_laws.Goals as goal

pub returns-clause-image : goal.returns-clause-image
returns-clause-image c = λ tail stripes lim laid bits len few. image_is tail stripes lim laid bits len few

pub returns-clause-postscript : goal.returns-clause-postscript
returns-clause-postscript c = λ tail lim bits few. short_is tail lim bits few
