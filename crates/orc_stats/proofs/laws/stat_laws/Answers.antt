use Rattle.orc_stats.proofs.Shuffled.{stat-shuffled}
use Rattle.orc_stats.proofs.Meanings.{least_numbers, greatest_numbers, least_counts, greatest_counts, count_totals, least_texts, greatest_texts, totals, true_counts}
use Rattle.orc_stats.proofs.Normal.{stat-normal}
use Rattle.orc_stats.proofs.laws.stat_laws.Goals as goal

pub returns-clause-order : goal.returns-clause-order
returns-clause-order c = stat-shuffled

pub returns-clause-least_number : goal.returns-clause-least_number
returns-clause-least_number c = least_numbers

pub returns-clause-greatest_number : goal.returns-clause-greatest_number
returns-clause-greatest_number c = greatest_numbers

pub returns-clause-least_count : goal.returns-clause-least_count
returns-clause-least_count c = least_counts

pub returns-clause-greatest_count : goal.returns-clause-greatest_count
returns-clause-greatest_count c = greatest_counts

pub returns-clause-count_total : goal.returns-clause-count_total
returns-clause-count_total c = count_totals

pub returns-clause-least_text : goal.returns-clause-least_text
returns-clause-least_text c = least_texts

pub returns-clause-greatest_text : goal.returns-clause-greatest_text
returns-clause-greatest_text c = greatest_texts

pub returns-clause-total : goal.returns-clause-total
returns-clause-total c = totals

pub returns-clause-true_count : goal.returns-clause-true_count
returns-clause-true_count c = true_counts

pub returns-clause-normal : goal.returns-clause-normal
returns-clause-normal c = stat-normal
