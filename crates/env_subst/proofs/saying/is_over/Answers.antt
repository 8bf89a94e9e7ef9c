use Rattle.std.proofs.Common.{◌∙◌, sym}
use Rattle.env_subst.proofs.Said.{none_mapped}
use Rattle.env_subst.proofs.saying.is_over.Goals as goal

pub returns-in-Nodes : goal.returns-in-Nodes
returns-in-Nodes c = rw c.in-Nodes.is (λ h locals. none_mapped _ _ (sym c.is_empty.ensures ∙ h))

pub returns-in-Items : goal.returns-in-Items
returns-in-Items c = rw c.in-Items.is (λ h locals. none_mapped _ _ (sym c.is_empty-in-Items.ensures ∙ h))

pub returns-in-Words : goal.returns-in-Words
returns-in-Words c = rw c.in-Words.is (λ h locals. none_mapped _ _ (sym c.is_empty-in-Words.ensures ∙ h))

pub returns-in-Pairs : goal.returns-in-Pairs
returns-in-Pairs c = rw c.in-Pairs.is (λ h locals. none_mapped _ _ (sym c.is_empty-in-Pairs.ensures ∙ h))
