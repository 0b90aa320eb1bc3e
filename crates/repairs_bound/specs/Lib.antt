pub mod RepairsBound
