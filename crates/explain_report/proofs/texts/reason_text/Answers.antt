use Rattle.explain_report.proofs.texts.reason_text.Goals as goal

pub returns-in-Newly : goal.returns-in-Newly
returns-in-Newly c = rw (c.in-Newly.is, ← c.target_at-in-Newly.ensures, ← c.dep_at.ensures) c.about.ensures

pub returns-in-Gone : goal.returns-in-Gone
returns-in-Gone c = rw (c.in-Gone.is, ← c.target_at-in-Gone.ensures, ← c.old_dep_at.ensures) c.about-in-Gone.ensures
