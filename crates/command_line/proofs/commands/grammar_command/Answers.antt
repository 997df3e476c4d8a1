use Rattle.command_line.proofs.commands.grammar_command.Goals as goal

pub returns-clause-shape : goal.returns-clause-shape
returns-clause-shape c = rw c.about.ensures c.new.ensures.app

pub returns-clause-local : goal.returns-clause-local
returns-clause-local c = rw c.about.ensures c.new.ensures.local
