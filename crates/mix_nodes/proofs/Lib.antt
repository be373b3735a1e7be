mod MachineRows
mod ReadLemmas
mod RowLemmas
