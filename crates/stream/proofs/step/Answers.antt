-- `stream::step` meets its contract. Assumes nothing.
use native.Mathlib.Omega.{arith}
use borrow.Author.Rules.{rules}
use Rattle.stream.proofs.Steps.{step_options, step_pressures, step_nodes, step_links, step_stopped, count_nodes, count_links}
use Rattle.stream.proofs.step.Goals as goal

pub at_nodes-requires : goal.at_nodes-requires
at_nodes-requires c = omega (arith, c.requires, count_nodes _ _ _ _ c.in-Nodes.is)

pub in_links-requires : goal.in_links-requires
in_links-requires c = omega (arith, c.requires, count_links _ _ _ _ _ c.in-Links.is)

pub returns-in-Options : goal.returns-in-Options
returns-in-Options c = step_options _ _ _ _ c.in-Options.is c.in_options.ensures

pub returns-in-Pressures : goal.returns-in-Pressures
returns-in-Pressures c = step_pressures _ _ _ _ c.in-Pressures.is c.at_pressures.ensures

pub returns-in-Nodes : goal.returns-in-Nodes
returns-in-Nodes c = step_nodes _ _ _ _ _ _ c.in-Nodes.is c.at_nodes.ensures

pub returns-in-Links : goal.returns-in-Links
returns-in-Links c = step_links _ _ _ _ _ _ _ c.in-Links.is c.in_links.ensures

pub returns-in-Stopped : goal.returns-in-Stopped
returns-in-Stopped c = step_stopped _ c.args.p _ _ c.in-Stopped.is
