use Rattle.comparison.proofs.said.+kind_along.Given as goal

abbrev pub decreases-kind_along : goal.decreases-kind_along
decreases-kind_along l = l.most
