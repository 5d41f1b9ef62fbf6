use Rattle.command_words.proofs.reading.orders_in.Goals as goal

pub returns-in_default-bounds_in-clause-usage : goal.returns-in_default-bounds_in-clause-usage
returns-in_default-bounds_in-clause-usage c = λ o s.
    c.in_default-bounds_in.ensures.none
    (record { tasks = o.tasks; eager = o.eager; quota = o.quota; calls = o.calls })
    (record { tasks = s.tasks; eager = s.eager; quota = s.quota; calls = s.calls; few = s.few })
