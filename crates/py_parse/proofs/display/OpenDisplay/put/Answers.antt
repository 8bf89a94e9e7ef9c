use Rattle.py_parse.proofs.display.OpenDisplay.put.Goals as goal

pub returns-in-Source-clause-goes : goal.returns-in-Source-clause-goes
returns-in-Source-clause-goes c = rw c.in-Source.is c.put_source.ensures.goes

pub returns-in-Test-clause-goes : goal.returns-in-Test-clause-goes
returns-in-Test-clause-goes c = rw c.in-Test.is c.put_test.ensures.goes
