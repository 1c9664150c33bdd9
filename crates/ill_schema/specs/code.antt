pub mod ValueFits
