use Rattle.std.proofs.Common.{◌≤◌, List, [], ◌∷◌, length}
use Rattle.std.specs.List.{AllByRecursion}
use Rattle.orc_values.specs.Shapes.{Shape, width}
use Rattle.orc_stats.specs.declared.stat.Stat.{Stat}
use Rattle.orc_tail.specs.Statistics.{AreStats}
use Rattle.orc_tail.proofs.Opened.{tail_within}
use Rattle.orc_check.proofs.EachFinding.{each_found}
use Rattle.orc_check.proofs.OneList.{one_findings}
use Rattle.orc_check.proofs.NoFinding.{none_found, whole_found, honest_found, index_found}
use Rattle.orc_check.proofs.laws.finding_laws.Goals as goal
use Rattle.orc_values.proofs.Deeper.{width_pos}

all_few : (s : Shape) (xss : List (List Stat)) → AllByRecursion (AreStats s) xss → AllByRecursion (λ (xs : List Stat). length xs ≤ width s) xss
all_few s [] h = tt
all_few s (xs ∷ xss) h = (h.0.few, all_few s xss h.1)

pub returns-clause-one : goal.returns-clause-one
returns-clause-one c = one_findings

pub returns-clause-each : goal.returns-clause-each
returns-clause-each c = λ bytes tail rows found finding is h. each_found bytes tail rows is found finding h

pub returns-clause-none : goal.returns-clause-none
returns-clause-none c = λ bytes tail rows is.
    let l = tail_within bytes tail is.tail_is in (
      λ found. (
        honest_found bytes tail rows is l.stats_of_stripes (all_few tail.schema tail.stripe_stats l.stripe_stats) (width_pos tail.schema) found,
        whole_found bytes tail rows is found,
        index_found bytes tail rows is found,
      ),
      λ h. none_found bytes tail rows is h.0 h.1 h.2,
    )
