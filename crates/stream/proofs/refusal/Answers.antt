-- `stream::refusal` meets its contract. Assumes nothing.
use native.Mathlib.Omega.{arith}
use borrow.Author.Rules.{rules}
use Rattle.refusals.specs.declared.refusals.Refusal.TheVariants.{NodeCount}
use Rattle.stream.proofs.Steps.{end_options, end_pressures, end_nodes, end_links, end_stopped, count_nodes, count_links}
use Rattle.stream.proofs.refusal.Goals as goal

pub end_in_nodes-requires-in-Nodes : goal.end_in_nodes-requires-in-Nodes
end_in_nodes-requires-in-Nodes c = omega (arith, c.requires, count_nodes _ _ _ _ c.in-Nodes.is)

pub end_in_links-requires : goal.end_in_links-requires
end_in_links-requires c = omega (arith, c.requires, count_links _ _ _ _ _ c.in-Links.is)

pub returns-in-Options : goal.returns-in-Options
returns-in-Options c = end_options _ NodeCount _ c.in-Options.is

pub returns-in-Pressures : goal.returns-in-Pressures
returns-in-Pressures c = end_pressures _ _ _ c.in-Pressures.is c.end_in_nodes.ensures

pub returns-in-Nodes : goal.returns-in-Nodes
returns-in-Nodes c = end_nodes _ _ _ _ _ c.in-Nodes.is c.end_in_nodes-in-Nodes.ensures

pub returns-in-Links : goal.returns-in-Links
returns-in-Links c = end_links _ _ _ _ _ _ c.in-Links.is c.end_in_links.ensures

pub returns-in-Stopped : goal.returns-in-Stopped
returns-in-Stopped c = end_stopped _ NodeCount _ c.in-Stopped.is
