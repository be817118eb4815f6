-- The nodes of statements.
use Rattle.ruby_nodes.specs.declared.table.Node.{Node}
use Rattle.ruby_nodes.specs.declared.table.Node.TheVariants as node
use Rattle.ruby_machine_statements.specs.declared.node.Statement.{Statement}
use Rattle.ruby_machine_statements.specs.declared.node.Statement.TheVariants as statement

-- the node that a statement was read off
abbrev pub node_of : Statement → Node
node_of (statement.Expr e next) = node.Expr e next
node_of (statement.Set name e next) = node.Set name.now e next
node_of (statement.SetIvar name e next) = node.SetIvar name.now e next
node_of (statement.Return e next) = node.Return e next
node_of (statement.ReturnNil next) = node.ReturnNil next
node_of (statement.Raise e next) = node.Raise e next
node_of (statement.If arms other after next) = node.If arms other after next
