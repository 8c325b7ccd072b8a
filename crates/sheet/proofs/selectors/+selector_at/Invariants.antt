-- A selector within another has one depth fewer.
use Rattle.sheet.proofs.selectors.+selector_at.Given as goal

abbrev pub decreases-selector_at : goal.decreases-selector_at
decreases-selector_at l = l.depth
