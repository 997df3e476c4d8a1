use Rattle.command_line.proofs.parts.described.Goals as goal

pub returns-clause-shape : goal.returns-clause-shape
returns-clause-shape c = rw (c.after_help.ensures, c.long_about.ensures, c.about.ensures) c.new.ensures.app

pub returns-clause-local : goal.returns-clause-local
returns-clause-local c = rw (c.after_help.ensures, c.long_about.ensures, c.about.ensures) c.new.ensures.local
